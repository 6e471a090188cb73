use Rattle.std.proofs.Common.{take}
use Rattle.std.specs.List.{AllZip}
use Rattle.des.specs.Parity.{AgreeOutsideParity}
use Rattle.des_c.proofs.keys.agree_in_each.Given as goal

-- the parts before the index agree
abbrev pub invariant-loop-i : goal.invariant-loop-i
invariant-loop-i l = AllZip AgreeOutsideParity (take l.i l.parts) (take l.i l.others)
