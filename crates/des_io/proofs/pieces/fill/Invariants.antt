use Rattle.std.proofs.Common.{◌≡◌, ◌≤◌, length, take}
use Rattle.std.specs.Io.KnownBytes.{Consumes}
use Rattle.des_io.proofs.pieces.fill.Given as goal

-- what is filled is what was consumed
abbrev pub invariant-loop : goal.invariant-loop
invariant-loop g l = record {
  count : length l.buffer ≡ length l.initial.buffer;
  within : l.at ≤ length l.buffer;
  read : Consumes (g.R.Read.remaining l.initial.reader) (g.R.Read.remaining l.reader) (take l.at l.buffer);
}
