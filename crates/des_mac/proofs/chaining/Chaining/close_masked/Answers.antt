use Rattle.std.proofs.Common.{arith, ◌∙◌}
use Rattle.des.proofs.XoredBlocks.{length-xor_blocks}
use Rattle.des_mac.proofs.Absorbing.{cbc_mac-masked}
use Rattle.des_mac.proofs.chaining.Chaining.close_masked.Goals as goal

pub returns : goal.returns
returns g c = λ key m holds whole.
    rw c.xor.ensures at (c.chain_block.ensures key holds.is_key holds.made)
    ∙ cbc_mac-masked (g.C.KeyedCipher.encryption key) c.args.self.now.chain c.args.self.now.pending c.args.self.now.count m
    c.args.subkey.now (omega (arith, length-xor_blocks c.args.self.now.pending c.args.subkey.now)) whole holds.absorbed
