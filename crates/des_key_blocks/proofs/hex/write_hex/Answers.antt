use Rattle.std.proofs.Common.{rules, refl, sym}
use Rattle.des_key_blocks.specs.Hex.{hex_of}
use Rattle.des_key_blocks.proofs.HexBytes.{hex_of-step}
use Rattle.des_key_blocks.proofs.hex.write_hex.Goals as goal

pub loop-i-init : goal.loop-i-init
unfolding hex_of
loop-i-init c = refl

pub loop-i-preserved : goal.loop-i-preserved
loop-i-preserved c =
    let step = hex_of-step c.args.bytes.now c.loop-i.text c.loop-i.i c.loop-i-test.true (search rules)
    c.loop-i.invariant in
    cc (sym step)
