-- Where records begin in a list of blocks.
use Rattle.std.proofs.Common.{◌≡◌, ◌≢◌, ℕ, zero, suc, ◌+◌, ◌-◌, ◌<◌, ◌≤◌, List, length, sum, get_or, ap, arith, inl, inr}
use Rattle.std.proofs.lemmas.Bool.{cases_lt, cases_eq}
use Rattle.std.proofs.lemmas.List.{take_all}
use Rattle.std.proofs.lemmas.List.Sums.{fold_more}
use Rattle.des_fast.specs.Records.{start}

-- the next record begins where a record ends
pub start-more : (sizes : List ℕ) (k : ℕ) → k < length sizes → start sizes (k + 1) ≡ start sizes k + get_or sizes k 0
start-more sizes k below = fold_more ◌+◌ 0 sizes k 0 below

-- the last ends where all blocks do
pub start-whole : (sizes : List ℕ) (k : ℕ) → length sizes ≤ k → start sizes k ≡ sum sizes
start-whole sizes k all = ap sum (take_all k sizes all)

start-on : (sizes : List ℕ) (k n : ℕ) → k + n ≤ length sizes → start sizes k ≤ start sizes (k + n)
start-on sizes k zero within =
    let same : k + 0 ≡ k = omega arith in omega (arith, ap (start sizes) same)
start-on sizes k (suc n) within =
    let next : k + suc n ≡ k + n + 1 = omega arith in
    omega (arith, ap (start sizes) next, start-more sizes (k + n) (omega arith), start-on sizes k n (omega arith))

-- records begin in order
pub start-le : (sizes : List ℕ) (k m : ℕ) → k ≤ m → m ≤ length sizes → start sizes k ≤ start sizes m
start-le sizes k m from within =
    let at : k + (m - k) ≡ m = omega arith in
    omega (arith, start-on sizes k (m - k) (omega arith), ap (start sizes) at)

-- a record ends before a later one
pub end-le : (sizes : List ℕ) (k m : ℕ) → k < m → m ≤ length sizes → start sizes k + get_or sizes k 0 ≤ start sizes m
end-le sizes k m before within =
    omega (arith, start-more sizes k (omega arith), start-le sizes (k + 1) m (omega arith) within)

-- and within all blocks
pub end-within : (sizes : List ℕ) (k : ℕ) → k < length sizes → start sizes k + get_or sizes k 0 ≤ sum sizes
end-within sizes k below =
    omega (arith, end-le sizes k (length sizes) below (omega arith), start-whole sizes (length sizes) (omega arith))

-- blocks of two records are apart
pub records-apart : (sizes : List ℕ) (k m i j : ℕ) → k < length sizes → m < length sizes → k ≢ m
    → i < get_or sizes k 0 → j < get_or sizes m 0 → start sizes k + i ≢ start sizes m + j
records-apart sizes k m i j in_k in_m other low_i low_j same =
    elim (cases_lt k m) [
      | inl before ↦ absurd (omega (arith, end-le sizes k m before (omega arith)))
      | inr from ↦
          elim (cases_lt m k) [
            | inl after ↦ absurd (omega (arith, end-le sizes m k after (omega arith)))
            | inr to ↦ other (omega arith)
          ]
    ]

-- so are two blocks with different numbers in their records
pub blocks-apart : (sizes : List ℕ) (k m i j : ℕ) → k < length sizes → m < length sizes
    → i < get_or sizes k 0 → j < get_or sizes m 0 → i ≢ j → start sizes k + i ≢ start sizes m + j
blocks-apart sizes k m i j in_k in_m low_i low_j other same =
    elim (cases_eq k m) [
      | inl one ↦ other (omega (arith, ap (start sizes) one))
      | inr two ↦ records-apart sizes k m i j in_k in_m two low_i low_j same
    ]
