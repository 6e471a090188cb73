use Rattle.std.proofs.Common.{◌≡◌, ◌-◌, ◌≤◌, length}
use Rattle.des_io.specs.Streams.{Skips}
use Rattle.des_io.proofs.part.skip_blocks.Given as goal

-- blocks were read, and the others are left
abbrev pub invariant-loop : goal.invariant-loop
invariant-loop g l = record {
  count : length l.bytes ≡ length l.initial.bytes;
  so_far : Skips l.initial.mode l.mode (l.initial.left - l.left) (g.R.Read.remaining l.initial.reader)
      (g.R.Read.remaining l.reader);
  within : l.left ≤ l.initial.left;
}
