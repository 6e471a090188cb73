use Rattle.std.proofs.Common.{ℕ, List, ◌<◌, refl, ◌∙◌, rules}
use Rattle.std.proofs.lemmas.List.Elements.{All-from_get_or}
use Rattle.des.specs.Blocks.{AreBytes}
use Rattle.des_uses.proofs.BlockLists.{map-alike}
use Rattle.des_uses.proofs.spread_lists.decrypt_spread.Goals as goal

-- the keys are those of the cipher, and the cipher is made from the key, so they decrypt each block as the key does
pub returns-clause-decrypted : goal.returns-clause-decrypted
returns-clause-decrypted g c =
    let key : List ℕ = c.args.key.now in
    let cipher = c.in_ok-cipher.cipher in
    let bytes : AreBytes key = All-from_get_or (λ byte. byte < 256) key 0 (λ i within. search rules) in
    c.decrypt_many.ensures.decrypted (g.C.BlockCipherEncrypt.encrypted cipher) (g.C.BlockCipherDecrypt.decrypted cipher)
    c.spread_keys.ensures
    ∙ map-alike (g.C.BlockCipherDecrypt.decrypted cipher) (g.C.KeyedCipher.decryption key) c.args.blocks.now
    (λ block is_block. g.met.C.KeyedCipher.decrypts_by_key cipher key block
    (c.in_ok-cipher.ensures.accepted.0 refl, bytes) c.in_ok-cipher.ensures.made is_block) c.decrypt_many.ensures.blocks
