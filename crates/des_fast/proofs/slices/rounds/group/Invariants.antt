use Rattle.std.proofs.Common.{◌≡◌, ℕ, ◌+◌, ◌*◌, ◌%◌, ◌<◌, false, map, get_or, length}
use Rattle.des.specs.Bits.{xor}
use Rattle.des_fast.specs.Slices.{InEachBlock}
use Rattle.des_fast.specs.declared.slices.rounds.TheConstants.{PERMUTED_CHOICE_2}
use Rattle.des_fast.proofs.slices.rounds.group.Given as goal

abbrev pub invariant-loop-i : goal.invariant-loop-i
invariant-loop-i g l =
    (length l.group ≡ 6)
    × ((k : ℕ) → k < l.i
    → InEachBlock g.S.Slice.BATCH (λ b. get_or (map (g.S.Slice.bit b) l.group) k false ≡ xor
    (get_or (map (g.S.Slice.bit b) l.half) ((4 * l.number + k + 31) % 32) false)
    (get_or (map (g.S.Slice.bit b) l.key) (l.rotation + get_or PERMUTED_CHOICE_2 (6 * l.number + k) 0) false)))
