use Rattle.std.proofs.Common.{◌≡◌, ℕ, ◌+◌, ◌<◌, length, get_or}
use Rattle.des.specs.Bits.{bits_of_word}
use Rattle.des.specs.KeySchedule.{round_key}
use Rattle.des_fast.specs.declared.halves.RoundKey.{RoundKey}
use Rattle.des_fast.specs.Groups.{bits_of_groups}
use Rattle.des_fast.proofs.schedule.round_keys.Given as goal

-- the round keys so far are those of the key
abbrev pub invariant-loop-i : goal.invariant-loop-i
invariant-loop-i l = record {
  sixteen : length l.round_keys ≡ 16;
  made : (k : ℕ) → k < l.i → (d : RoundKey)
      → bits_of_groups (get_or l.round_keys k d).groups ≡ round_key (bits_of_word l.key) (k + 1);
}
