use Rattle.std.proofs.Common.{ℕ, List, ◌<◌, ◌∙◌}
use Rattle.std.proofs.lemmas.List.Elements.{All-from_get_or}
use Rattle.des.specs.Blocks.{IsBlock}
use Rattle.des_uses.proofs.RelatedBlocks.{related}
use Rattle.des_uses.proofs.by_relation.relates.Goals as goal

-- a cipher made from a key encrypts and decrypts as the key does
pub returns-clause-there : goal.returns-clause-there
returns-clause-there g c =
    let block : List ℕ = c.args.block.now in
    let cipher = c.of_key-cipher.result in
    let is_block : IsBlock block =
    (c.told-block, All-from_get_or (λ byte. byte < 256) block 0 (λ i within. c.fits-block i)) in
    related _ _ block _ _ c.of_key-cipher.ensures.encryption is_block
    (◌∙◌ {b = g.C.BlockCipherEncrypt.encrypted cipher block} c.encrypt_block.ensures
    (g.met.C.KeyedCipher.encrypts_by_key cipher _ block
    c.of_key-cipher.ensures.key c.of_key-cipher.ensures.made is_block))
    c.is_same.ensures

pub returns-clause-back : goal.returns-clause-back
returns-clause-back g c =
    let other : List ℕ = c.args.other.now in
    let cipher = c.of_key-cipher.result in
    let is_block : IsBlock other =
    (c.told-other, All-from_get_or (λ byte. byte < 256) other 0 (λ i within. c.fits-other i)) in
    related _ (λ y x. g.C.Relating.relation (g.C.Key.KeyBytes.bytes_of c.args.key.now) x y) other _ _
    c.of_key-cipher.ensures.decryption is_block
    (◌∙◌ {b = g.C.BlockCipherDecrypt.decrypted cipher other} c.decrypt_block.ensures
    (g.met.C.KeyedCipher.decrypts_by_key cipher _ other
    c.of_key-cipher.ensures.key c.of_key-cipher.ensures.made is_block))
    c.is_same-2.ensures
