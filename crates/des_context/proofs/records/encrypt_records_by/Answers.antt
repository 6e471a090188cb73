use Rattle.std.proofs.Common.{[], rules}
use Rattle.std.proofs.lemmas.List.Elements.{All-take, All-drop, All-get_or}
use Rattle.des.specs.Blocks.{IsBlock}
use Rattle.des_fast.proofs.RelatedCbc.{CbcUnder-related}
use Rattle.des_context.specs.Records.{CbcUnderEach}
use Rattle.des_context.proofs.RelationsByLength.{IsGraphOf-by_length}
use Rattle.des_context.proofs.records.encrypt_records_by.Goals as goal

-- the keys are those of the cipher, whose graph the relation is
pub returns-in-Ok : goal.returns-in-Ok
unfolding CbcUnderEach
returns-in-Ok g c = record {
  accepted = search rules;
  refused = search rules;
  chained = λ done key context k below.
      let cipher = c.of.result in
      let made = c.of.ensures key context in
      let ensured = c.in-Ok.ensures in
      CbcUnder-related _ _
      (IsGraphOf-by_length (g.met.C.ContextCipher.relates_by_length cipher key made) _
      (g.met.C.Relating.encrypts_by_relation cipher key made))
      _ _ _ (All-get_or IsBlock _ k [] below ensured.vectors)
      (All-take IsBlock _ _ (All-drop IsBlock _ _ ensured.blocks)) (g.met.C.BlockCipher.encrypted_is_block cipher)
      (ensured.chained (g.C.BlockCipherEncrypt.encrypted cipher) (g.C.BlockCipherDecrypt.decrypted cipher)
      c.spread_keys-keys.ensures k below);
  goes_on = λ done.
      c.in-Ok.ensures.goes_on (g.C.BlockCipherEncrypt.encrypted c.of.result) (g.C.BlockCipherDecrypt.decrypted c.of.result)
      c.spread_keys-keys.ensures;
  kept = search rules;
}
