-- The bytes before the index are xored, and those from it on are as they were.
use Rattle.std.proofs.Common.{◌≡◌, ◌/◌, ◌%◌, ◌<◌, ◌≤◌, ℕ, [], get_or, bit_xor}
use Rattle.des_modes.proofs.xored.xor_segments.Given as goal

abbrev pub invariant-loop-i : goal.invariant-loop-i
invariant-loop-i l = record {
  xored : (k : ℕ) → k < l.i → get_or l.bytes k 0
      ≡ bit_xor (get_or l.initial.bytes k 0) (get_or (get_or l.blocks (k / l.segment) []) (k % l.segment) 0);
  rest : (k : ℕ) → l.i ≤ k → get_or l.bytes k 0 ≡ get_or l.initial.bytes k 0;
}
