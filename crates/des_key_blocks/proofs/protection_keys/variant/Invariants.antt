use Rattle.std.proofs.Common.{◌≡◌, ℕ, ◌<◌, ◌≤◌, length, get_or, bit_xor}
use Rattle.des_key_blocks.proofs.protection_keys.variant.Given as goal

-- the bytes before the index are xored, and those from it on are as they were
abbrev pub invariant-loop-part : goal.invariant-loop-part
invariant-loop-part l = record {
  count : length l.part-items ≡ 24;
  xored : (k : ℕ) → k < l.part-index → get_or l.part-items k 0 ≡ bit_xor (get_or l.key k 0) l.byte;
  rest : (k : ℕ) → l.part-index ≤ k → get_or l.part-items k 0 ≡ get_or l.key k 0;
}
