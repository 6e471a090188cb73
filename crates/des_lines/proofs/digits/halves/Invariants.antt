use Rattle.std.proofs.Common.{◌≡◌, ℕ, ◌+◌, ◌*◌, ◌/◌, ◌%◌, ◌<◌, length, get_or}
use Rattle.des_lines.proofs.digits.halves.Given as goal

-- the digits of the bytes before the index are written
abbrev pub invariant-loop-i : goal.invariant-loop-i
invariant-loop-i l = record {
  count : length l.digits ≡ 10;
  written : (k : ℕ) → k < l.i
      → (get_or l.digits (2 * k) 0 ≡ get_or l.bytes k 0 / 16)
      × (get_or l.digits (2 * k + 1) 0 ≡ get_or l.bytes k 0 % 16);
}
