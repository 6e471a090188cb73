-- The bytes below j are copied.
use Rattle.std.proofs.Common.{◌≡◌, ℕ, ◌+◌, ◌<◌, ◌++◌, get_or, length}
use Rattle.des_mac.proofs.many.joined_bytes.Given as goal

abbrev pub invariant-loop-j : goal.invariant-loop-j
invariant-loop-j l = record {
  width : length l.block ≡ 8;
  copied : (k : ℕ) → k < l.j → get_or l.block k 0 ≡ get_or (l.bytes ++ l.more) (l.place + k) 0;
}
