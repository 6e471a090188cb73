-- Rounds and passes of each block, as slices go through them.
use Rattle.std.proofs.Common.{◌≡◌, ℕ, ◌+◌, ◌*◌, ◌<◌, Bool, List, [], ◌∷◌, ◌++◌, length, take, get_or, ap, sym, ◌∙◌}
use Rattle.des.specs.Bits.{select}
use Rattle.des.specs.Tables.{final_permutation}
use Rattle.des.specs.Rounds.{after_rounds, swapped}
use Rattle.des.specs.Laws.Selections.{select-initial_permutation}
use Rattle.des.specs.Laws.RoundsUndone.{next_half, length-swapped, through_rounds-from_halves}
use Rattle.des_fast.specs.Passes.{through_passes}
use Rattle.des_fast.proofs.RoundPairs.{after_rounds-two_more}

-- ---- rounds

-- the halves of a block after two rounds more
pub bits-two_rounds : (i : ℕ) (keys : List (List Bool)) (left right first second third fourth : List Bool)
    → 2 * i + 1 < length keys → after_rounds (take (2 * i) keys) left right ≡ (first, second)
    → third ≡ next_half first second (get_or keys (2 * i) [])
    → fourth ≡ next_half second third (get_or keys (2 * i + 1) [])
    → after_rounds (take (2 * (i + 1)) keys) left right ≡ (third, fourth)
bits-two_rounds i keys left right first second third fourth below so_far one two =
    sym (after_rounds-two_more keys i left right first second third fourth below (sym so_far) one two)

-- ---- passes

-- a pass from two halves leaves them, in the opposite order, to the passes after it
pub through_passes-halves : (keys : List (List Bool)) (passes : List (List (List Bool))) (left right last next : List Bool)
    → length left ≡ 32 → length right ≡ 32 → after_rounds keys left right ≡ (last, next)
    → through_passes (keys ∷ passes) (select final_permutation (left ++ right))
    ≡ through_passes passes (select final_permutation (next ++ last))
through_passes-halves keys passes left right last next first second rounds =
    ap (through_passes passes)
    (through_rounds-from_halves keys (select final_permutation (left ++ right)) left right first
    (select-initial_permutation (left ++ right) (length-swapped (right, left) (second, first)))
    ∙ ap (λ (halves : List Bool × List Bool). select final_permutation (swapped halves)) rounds)
