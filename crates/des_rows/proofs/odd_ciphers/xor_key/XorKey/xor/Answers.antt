use Rattle.std.proofs.Common.{◌∙◌}
use Rattle.des_rows.specs.OddCiphers.{xored-words}
use Rattle.des_rows.proofs.odd_ciphers.xor_key.XorKey.xor.Goals as goal

-- the bytes of the word of the block xor that of the key
pub returns : goal.returns
returns c =
    c.to_be_bytes.ensures
    ∙ xored-words c.args.self.now.key c.args.block.now c.from_be_bytes-2.result c.from_be_bytes.result
    c.from_be_bytes-2.type_inv
    c.from_be_bytes-2.ensures c.from_be_bytes.ensures
