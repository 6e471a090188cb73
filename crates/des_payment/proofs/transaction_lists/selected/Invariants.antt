use Rattle.std.proofs.Common.{◌≡◌, ℕ, ◌<◌, ◌≤◌, length, get_or, bit_xor, bit_and}
use Rattle.des_payment.proofs.transaction_lists.selected.Given as goal

-- the bytes before the index are chosen, and those from it on are as they were
abbrev pub invariant-loop-i : goal.invariant-loop-i
invariant-loop-i l = record {
  count : length l.byte-items ≡ length l.initial.byte-items;
  chosen : (k : ℕ) → k < l.i → get_or l.byte-items k 0 ≡ bit_xor (get_or l.initial.byte-items k 0)
      (bit_and l.mask (bit_xor (get_or l.initial.byte-items k 0) (get_or l.taken k 0)));
  rest : (k : ℕ) → l.i ≤ k → get_or l.byte-items k 0 ≡ get_or l.initial.byte-items k 0;
}
