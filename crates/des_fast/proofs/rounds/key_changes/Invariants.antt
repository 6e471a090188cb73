use Rattle.std.proofs.Common.{◌≡◌, ◌<◌, ◌+◌, ◌%◌, ℕ, false, length, bit_xor}
use Rattle.des_fast.specs.RoundKeyChanges.{key_word}
use Rattle.des_fast.proofs.rounds.key_changes.Given as goal

-- the changes stand at the places so far
abbrev pub invariant-places : goal.invariant-places
invariant-places l =
    record {
      size : length l.changes ≡ 16;
      so_far : (n : ℕ) → n < l.place → key_word false l.changes n
          ≡ bit_xor (key_word false l.round_keys n) (key_word false l.round_keys ((n + l.step) % 16));
    }
