-- There is no zero before the index.
use Rattle.std.proofs.Common.{◌≡◌, ◌==◌, ◌+◌, ◌-◌, ◌≤◌, length, drop}
use Rattle.std.specs.List.{position_or_len}
use Rattle.des_columns.proofs.key_file.before_zero.Given as goal

abbrev pub invariant-text : goal.invariant-text
invariant-text l = record {
  within : l.end ≤ length l.bytes;
  left : l.end + position_or_len (λ byte. byte == 0) (drop l.end l.bytes) ≡ position_or_len (λ byte. byte == 0) l.bytes;
}

abbrev pub decreases-text : goal.decreases-text
decreases-text l = length l.bytes - l.end
