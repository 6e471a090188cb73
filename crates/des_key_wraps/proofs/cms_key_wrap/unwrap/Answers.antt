use Rattle.std.proofs.Common.{refl, ◌∙◌}
use Rattle.des_key_wraps.proofs.Enclosed.{Wraps-one}
use Rattle.des_key_wraps.proofs.TkwSteps.{Undoes}
use Rattle.des_key_wraps.proofs.cms_key_wrap.unwrap.Given.{Over}
use Rattle.des_key_wraps.proofs.cms_key_wrap.unwrap.Goals as goal

laws : (g : Over) (cipher : g.row.C.Denot) → Undoes (g.C.BlockCipherEncrypt.encrypted cipher) (g.C.BlockCipherDecrypt.decrypted cipher)
laws g cipher =
    record { undone = g.met.C.BlockCipher.decrypts_encrypted cipher; is_block = g.met.C.BlockCipher.encrypted_is_block cipher }

pub returns-then-are_equal-clause-accepted : goal.returns-then-are_equal-clause-accepted
returns-then-are_equal-clause-accepted g c = λ iv other is_iv wraps.
    (refl, (Wraps-one (laws g c.args.cipher.now) _ iv _ _ other _ c.open.ensures.vector is_iv c.open.ensures.opened wraps).0)

-- what wraps a key has its checksum
pub returns-clause-accepted : goal.returns-clause-accepted
returns-clause-accepted g c = λ iv other is_iv wraps.
    let one = Wraps-one (laws g c.args.cipher.now) _ iv c.open.result.1 c.open.new.key other _ c.open.ensures.vector is_iv
    c.open.ensures.opened wraps in
    cc (c.are_equal.ensures.1 (c.checksum.ensures ∙ one.1), c.if-are_equal.false)
