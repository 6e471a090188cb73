-- The passes below i are those of their parts of the keys.
use Rattle.std.proofs.Common.{◌≡◌, length, map}
use Rattle.des_fast.specs.EachKey.{AreSpreadBelow}
use Rattle.des_fast.proofs.many.lanes.spread_parts.Given as goal

abbrev pub invariant-passes : goal.invariant-passes
invariant-passes g l = record {
  count : length l.passes ≡ length l.parts;
  spread : AreSpreadBelow g.S.Slice.bit l.parts (map g.K.KeyBytes.bytes_of l.keys) l.passes l.i;
}
