use Rattle.std.proofs.Common.{◌≡◌, ◌<◌, get_or}
use Rattle.des_payment.proofs.masks.entry_at.Given as goal

-- the entry is found once the index is past its place
abbrev pub invariant-loop-i : goal.invariant-loop-i
invariant-loop-i l = l.place < l.i → l.found ≡ get_or l.entries l.place 0
