use Rattle.std.proofs.Common.{◌≡◌, ℕ, ◌<◌, ◌≤◌, ◌==◌, if◌then◌else◌, length, get_or}
use Rattle.des_payment.proofs.masks.write_at.Given as goal

-- the bytes before the index are written, and those from it on are as they were
abbrev pub invariant-loop-k : goal.invariant-loop-k
invariant-loop-k g l = record {
  count : length l.bytes ≡ length l.initial.bytes;
  written : (k : ℕ) → k < l.k
      → get_or l.bytes k 0 ≡ (if k == l.place then l.byte else get_or l.initial.bytes k 0);
  rest : (k : ℕ) → l.k ≤ k → get_or l.bytes k 0 ≡ get_or l.initial.bytes k 0;
}
