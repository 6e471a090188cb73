use Rattle.std.proofs.Common.{ℕ, List, ◌<◌, refl, ◌∙◌, rules}
use Rattle.std.proofs.lemmas.List.Elements.{All-from_get_or}
use Rattle.des.specs.Blocks.{AreBytes}
use Rattle.des_uses.proofs.BlockLists.{map-alike}
use Rattle.des_uses.proofs.spread_lists.encrypt_spread.Goals as goal

-- the keys are those of the cipher, and the cipher is made from the key, so they encrypt each block as the key does
pub returns-clause-encrypted : goal.returns-clause-encrypted
returns-clause-encrypted g c =
    let key : List ℕ = c.args.key.now in
    let cipher = c.in_ok-cipher.cipher in
    let bytes : AreBytes key = All-from_get_or (λ byte. byte < 256) key 0 (λ i within. search rules) in
    c.encrypt_many.ensures.encrypted (g.C.BlockCipherEncrypt.encrypted cipher) (g.C.BlockCipherDecrypt.decrypted cipher)
    c.spread_keys.ensures
    ∙ map-alike (g.C.BlockCipherEncrypt.encrypted cipher) (g.C.KeyedCipher.encryption key) c.args.blocks.now
    (λ block is_block. g.met.C.KeyedCipher.encrypts_by_key cipher key block
    (c.in_ok-cipher.ensures.accepted.0 refl, bytes) c.in_ok-cipher.ensures.made is_block) c.encrypt_many.ensures.blocks
