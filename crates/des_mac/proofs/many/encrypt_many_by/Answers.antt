use Rattle.std.proofs.Common.{◌∙◌}
use Rattle.des_mac.proofs.MappedBlocks.{mapped-alike}
use Rattle.des_mac.proofs.many.encrypt_many_by.Goals as goal

-- a cipher made from the key encrypts as the key does
pub returns : goal.returns
returns g c =
    let key = g.C.Key.KeyBytes.bytes_of c.args.key.now in
    c.encrypt_many_by.ensures.encrypted
    ∙ mapped-alike (g.C.BlockCipherEncrypt.encrypted c.new.result) (g.C.KeyedCipher.encryption key) c.args.blocks.now
    c.encrypt_many_by.ensures.blocks
    (λ block is_block. g.met.C.KeyedCipher.encrypts_by_key c.new.result key block
    (rw g.met.C.KeySizeUser.key_size_is_len c.are_key_bytes.ensures) c.new.ensures is_block)
