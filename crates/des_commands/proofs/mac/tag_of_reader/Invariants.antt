use Rattle.std.proofs.Common.{ℕ, List, ◌<◌, length}
use Rattle.std.specs.Io.KnownBytes.{Consumes}
use Rattle.des_commands.proofs.mac.tag_of_reader.Given as goal

-- the state stands for what was read
abbrev pub invariant-loop : goal.invariant-loop
invariant-loop g l = record {
  absorbed : (bytes : List ℕ) × Consumes (g.R.Read.remaining l.initial.reader) (g.R.Read.remaining l.reader) bytes
      × g.M.Mac.holds l.state l.key bytes;
  capacity : 0 < length l.buffer;
}
