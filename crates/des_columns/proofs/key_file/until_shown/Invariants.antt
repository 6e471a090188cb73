-- What is left of the bytes ends where they do.
use Rattle.std.proofs.Common.{◌≡◌, ◌-◌, ◌≤◌, not, length, take}
use Rattle.std.specs.List.{suffix_len}
use Rattle.des_columns.specs.KeyFile.{is_shown}
use Rattle.des_columns.proofs.key_file.until_shown.Given as goal

abbrev pub invariant-hidden : goal.invariant-hidden
invariant-hidden l = record {
  within : l.end ≤ length l.bytes;
  left : l.end - suffix_len (λ byte. not (is_shown byte)) (take l.end l.bytes)
      ≡ length l.bytes - suffix_len (λ byte. not (is_shown byte)) l.bytes;
}

abbrev pub decreases-hidden : goal.decreases-hidden
decreases-hidden l = l.end
