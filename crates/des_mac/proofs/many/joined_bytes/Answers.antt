use Rattle.std.proofs.Common.{◌++◌, length-append, arith}
use Rattle.des_mac.proofs.ManyChains.{bytes-from}
use Rattle.des_mac.proofs.many.joined_bytes.Goals as goal

pub returns : goal.returns
returns c =
    bytes-from c.loop-j.block (c.args.bytes.now ++ c.args.more.now) c.args.place c.loop-j.invariant.width
    (omega (arith, length-append c.args.bytes.now c.args.more.now))
    (λ k below. c.loop-j.invariant.copied k (omega arith))
