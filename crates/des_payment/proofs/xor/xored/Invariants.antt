use Rattle.std.proofs.Common.{◌≡◌, ℕ, ◌<◌, ◌≤◌, length, get_or, bit_xor}
use Rattle.des_payment.proofs.xor.xored.Given as goal

-- the bytes before the index are xored, and those from it on are as they were
abbrev pub invariant-loop-i : goal.invariant-loop-i
invariant-loop-i g l = record {
  count : length l.byte-items ≡ length l.others;
  xored : (k : ℕ) → k < l.i → get_or l.byte-items k 0 ≡ bit_xor (get_or l.initial.byte-items k 0) (get_or l.others k 0);
  rest : (k : ℕ) → l.i ≤ k → get_or l.byte-items k 0 ≡ get_or l.initial.byte-items k 0;
}
