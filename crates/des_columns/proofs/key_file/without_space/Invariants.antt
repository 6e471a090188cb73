-- There is only white space before the index.
use Rattle.std.proofs.Common.{◌≡◌, ◌+◌, ◌-◌, ◌≤◌, not, length, drop}
use Rattle.std.specs.List.{position_or_len}
use Rattle.des_columns.specs.KeyFile.{is_space}
use Rattle.des_columns.proofs.key_file.without_space.Given as goal

abbrev pub invariant-space : goal.invariant-space
invariant-space l = record {
  within : l.start ≤ length l.bytes;
  left : l.start + position_or_len (λ byte. not (is_space byte)) (drop l.start l.bytes)
      ≡ position_or_len (λ byte. not (is_space byte)) l.bytes;
}

abbrev pub decreases-space : goal.decreases-space
decreases-space l = length l.bytes - l.start
