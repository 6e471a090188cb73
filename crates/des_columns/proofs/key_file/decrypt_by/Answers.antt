use Rattle.std.proofs.Common.{ℕ, List, ◌∙◌, subst}
use Rattle.des.specs.Blocks.{IsKey}
use Rattle.des_columns.proofs.KeysOfBlocks.{mapped-alike}
use Rattle.des_columns.proofs.key_file.decrypt_by.Goals as goal

-- a cipher made from the key answers as the key does
pub returns : goal.returns
returns g c =
    let key = g.C.Key.KeyBytes.bytes_of c.args.key.now in
    let is_key : IsKey g.C.Key.KeyBytes.LEN key =
    subst (λ (l : List ℕ). IsKey g.C.Key.KeyBytes.LEN l) c.as_bytes.ensures.bytes
    (c.as_bytes.ensures.count, c.as_bytes.ensures.are_bytes) in
    c.decrypt_list_by.ensures.decrypted
    ∙ mapped-alike (g.C.BlockCipherDecrypt.decrypted c.new.result) (g.C.KeyedCipher.decryption key) c.args.blocks.now
    c.decrypt_list_by.ensures.blocks
    (λ block is_block. g.met.C.KeyedCipher.decrypts_by_key c.new.result key block
    (rw g.met.C.KeySizeUser.key_size_is_len is_key) c.new.ensures is_block)
