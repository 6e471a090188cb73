use Rattle.std.proofs.Common.{◌∙◌}
use Rattle.des_mac.proofs.MappedBlocks.{mapped-alike}
use Rattle.des_mac.proofs.many.decrypt_many_by.Goals as goal

-- a cipher made from the key decrypts as the key does
pub returns : goal.returns
returns g c =
    let key = g.C.Key.KeyBytes.bytes_of c.args.key.now in
    c.decrypt_many_by.ensures.decrypted
    ∙ mapped-alike (g.C.BlockCipherDecrypt.decrypted c.new.result) (g.C.KeyedCipher.decryption key) c.args.blocks.now
    c.decrypt_many_by.ensures.blocks
    (λ block is_block. g.met.C.KeyedCipher.decrypts_by_key c.new.result key block
    (rw g.met.C.KeySizeUser.key_size_is_len c.are_key_bytes.ensures) c.new.ensures is_block)
