use Rattle.std.proofs.Common.{ℕ, List, ◌<◌}
use Rattle.std.proofs.lemmas.List.Elements.{All-from_get_or}
use Rattle.des.specs.Blocks.{IsBlock}
use Rattle.des_uses.proofs.RelatedBlocks.{one_block}
use Rattle.des_uses.proofs.by_relation.encrypts_alike.Goals as goal

-- the relation of the key takes one block alone to another
pub returns : goal.returns
returns g c =
    let block : List ℕ = c.args.block.now in
    let is_block : IsBlock block =
    (c.told-block, All-from_get_or (λ byte. byte < 256) block 0 (λ i within. c.fits-block i)) in
    let made_is_block : IsBlock c.encrypt.new.block =
    rw c.encrypt.ensures.encrypted (g.met.C.BlockCipher.encrypted_is_block c.of_key-cipher.result block is_block) in
    one_block _ block c.args.other.now c.encrypt.new.block c.encrypt-2.new.block
    c.of_key-cipher.ensures.bijective made_is_block
    (c.encrypt.ensures.enciphers _ c.of_key-cipher.ensures.made)
    (c.encrypt-2.ensures.enciphers _ c.of_key-cipher.ensures.made)
    c.is_same.ensures
