use Rattle.std.proofs.Common.{◌≡◌, ℕ, zero, suc, ◌+◌, ◌*◌, ◌/◌, ◌%◌, ◌^◌, ◌<◌, List, [], ◌∷◌, ◌++◌, Bool, map, length, get_or, lit≤, refl, ap, ap₂, ◌∙◌, arith, length-append, take, take_at, drop_at, take_all}
use Rattle.std.specs.List.{flat_map}
use Rattle.std.specs.Simd.Lanes.{pick_l}
use Rattle.std.proofs.lemmas.Simd.{pick_l-range_with_len}
use Rattle.des_fast.specs.Groups.{IsExpansion, half_of}
use Rattle.des_fast.specs.HalfBlocks.{first_halves}
use Rattle.des_fast.specs.declared.permutations.TheConstants.{BOTH}
use Rattle.des_fast.proofs.Columns.{AreColumns, AreColumns-part, column, bits_of_word-le, bits_of-twice, first_halves-columns}
use Rattle.des_fast.proofs.permutations.halves_of.Goals as goal
use Rattle.des_fast.proofs.permutations.halves_of.Goals.{After-expanded-2}

pub rows-right-requires : goal.rows-right-requires
rows-right-requires c (suc (suc (suc (suc (suc (suc (suc (suc k)))))))) below = absurd (omega arith)
rows-right-requires c k below =
    c.columns-c.ensures.within (get_or (6 ∷ 4 ∷ 2 ∷ 0 ∷ 6 ∷ 4 ∷ 2 ∷ 0 ∷ []) k 0) (lit≤ tt)

-- the bytes of both blocks, and of one
abbrev bytes : After-expanded-2 → ℕ → ℕ
bytes c i = get_or (pick_l 0 (c.args.first.now ++ c.args.second.now) BOTH) i 0

abbrev byte : After-expanded-2 → ℕ → ℕ → ℕ
byte c b i = bytes c (8 * b + i)

block-is : (first second : List ℕ) → length first ≡ 8 → length second ≡ 8 → (b : ℕ) → b < 2
    → map (λ i. get_or (pick_l 0 (first ++ second) BOTH) (8 * b + i) 0) (0 ∷ 1 ∷ 2 ∷ 3 ∷ 4 ∷ 5 ∷ 6 ∷ 7 ∷ [])
    ≡ get_or (first ∷ second ∷ []) b []
block-is first second p q zero within =
    pick_l-range_with_len 0 (first ++ second) 0 8 (omega (arith, length-append first second)) ∙ take_at first second 8 p
block-is first second p q (suc zero) within =
    pick_l-range_with_len 0 (first ++ second) 8 8 (omega (arith, length-append first second))
    ∙ ap (take 8) (drop_at first second 8 p) ∙ take_all 8 second (omega arith)
block-is first second p q (suc (suc b)) within = absurd (omega arith)

-- its columns
columns : (c : After-expanded-2) (b : ℕ) → b < 2
    → AreColumns (byte c b) (λ k. get_or c.columns-c.result k 0 / 2 ^ (8 * b) % 2 ^ 8)
columns c = AreColumns-part (bytes c) (λ k. get_or c.columns-c.result k 0) c.columns-c.ensures.bits

-- and its halves
left : (c : After-expanded-2) (b : ℕ) → b < 2 → IsExpansion (get_or c.expanded.result b 0)
    × (half_of (get_or c.expanded.result b 0) ≡ flat_map (column (byte c b)) (1 ∷ 3 ∷ 5 ∷ 7 ∷ []))
left c b within =
    c.expanded.ensures b within _ refl
    (bits_of_word-le _ _ (c.rows-left.ensures b within) ∙ bits_of-twice _ (byte c b) (columns c b within) 1 3 5 7 refl)

right : (c : After-expanded-2) (b : ℕ) → b < 2 → IsExpansion (get_or c.expanded-2.result b 0)
    × (half_of (get_or c.expanded-2.result b 0) ≡ flat_map (column (byte c b)) (0 ∷ 2 ∷ 4 ∷ 6 ∷ []))
right c b within =
    c.expanded-2.ensures b within _ refl
    (bits_of_word-le _ _ (c.rows-right.ensures b within) ∙ bits_of-twice _ (byte c b) (columns c b within) 0 2 4 6 refl)

halves : (c : After-expanded-2) (b : ℕ) → b < 2
    → (half_of (get_or c.expanded.result b 0), half_of (get_or c.expanded-2.result b 0))
    ≡ first_halves (get_or (c.args.first.now ∷ c.args.second.now ∷ []) b [])
halves c b within =
    ap₂ (λ (l r : List Bool). (l, r)) (left c b within).1 (right c b within).1
    ∙ first_halves-columns (byte c b)
    ∙ ap first_halves (block-is c.args.first.now c.args.second.now (omega arith) (omega arith) b within)

pub returns-clause-left : goal.returns-clause-left
returns-clause-left c b within = (left c b within).0

pub returns-clause-right : goal.returns-clause-right
returns-clause-right c b within = (right c b within).0

pub returns-clause-first : goal.returns-clause-first
returns-clause-first c = halves c 0 (lit≤ tt)

pub returns-clause-second : goal.returns-clause-second
returns-clause-second c = halves c 1 (lit≤ tt)
