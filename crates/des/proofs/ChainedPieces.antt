-- Lists of blocks that are chained piece after piece.
use Rattle.std.proofs.Common.{◌≡◌, inl, inr, ℕ, zero, suc, ◌+◌, ◌-◌, ◌<◌, ◌≤◌, List, [], ◌∷◌, ◌++◌, length, get_or, refl, ap, ap₂, sym, ◌∙◌, arith, length-append}
use Rattle.std.proofs.lemmas.Bool.{cases_lt}
use Rattle.std.proofs.lemmas.List.{get_or-append_right}
use Rattle.std.proofs.Math.ListN.{get_or-append}
use Rattle.des.specs.Cbc.{block_at, block_before, next_vector, CbcUnder, CbcDecrypts}

-- ---- the vector of the next piece

-- the vector after two lists, one after the other
pub next_vector-append : (vector : List ℕ) (blocks more : List (List ℕ))
    → next_vector vector (blocks ++ more) ≡ next_vector (next_vector vector blocks) more
next_vector-append vector [] more = refl
next_vector-append vector (block ∷ blocks) more = next_vector-append block blocks more

-- if there are blocks, it is the last of them
pub next_vector-last : (vector : List ℕ) (blocks : List (List ℕ)) (k : ℕ) → k + 1 ≡ length blocks
    → next_vector vector blocks ≡ get_or blocks k []
next_vector-last vector [] k same = absurd (omega arith)
next_vector-last vector (block ∷ []) zero same = refl
next_vector-last vector (block ∷ []) (suc k) same = absurd (omega arith)
next_vector-last vector (block ∷ (next ∷ blocks)) zero same = absurd (omega arith)
next_vector-last vector (block ∷ (next ∷ blocks)) (suc k) same = next_vector-last block (next ∷ blocks) k (omega arith)

-- ---- places of two lists

at_front : (a b : List (List ℕ)) (n : ℕ) → 1 ≤ n → n ≤ length a → block_at (a ++ b) n ≡ block_at a n
at_front a b n from to = get_or-append a b [] (n - 1) (omega arith)

at_back : (a b : List (List ℕ)) (n : ℕ) → length a < n → block_at (a ++ b) n ≡ block_at b (n - length a)
at_back a b n after =
    let same : n - 1 - length a ≡ n - length a - 1 = omega arith in
    get_or-append_right a b (length a) (n - 1) [] refl (omega arith) ∙ ap (λ k. get_or b k []) same

before_front : (iv : List ℕ) (a b : List (List ℕ)) (n : ℕ) → 1 ≤ n → n ≤ length a
    → block_before iv (a ++ b) n ≡ block_before iv a n
before_front iv a b n from to =
    let below : n - 1 < length (iv ∷ a) = omega arith in get_or-append (iv ∷ a) b [] (n - 1) below

-- from the last block of the first list
from_last : (iv : List ℕ) (a b : List (List ℕ)) (k : ℕ)
    → get_or (iv ∷ (a ++ b)) (k + length a) [] ≡ get_or (next_vector iv a ∷ b) k []
from_last iv [] b k = ap (λ n. get_or (iv ∷ b) n []) (omega arith)
from_last iv (block ∷ a) b k =
    let next : k + length (block ∷ a) ≡ suc (k + length a) = omega arith in
    ap (λ n. get_or (iv ∷ block ∷ (a ++ b)) n []) next ∙ from_last block a b k

before_back : (iv : List ℕ) (a b : List (List ℕ)) (n : ℕ) → length a < n
    → block_before iv (a ++ b) n ≡ block_before (next_vector iv a) b (n - length a)
before_back iv a b n after =
    let same : n - 1 ≡ n - length a - 1 + length a = omega arith in
    ap (λ k. get_or (iv ∷ (a ++ b)) k []) same ∙ from_last iv a b (n - length a - 1)

-- ---- chains

pub CbcUnder-append : (Relates : List ℕ → List ℕ → Type 0) (iv : List ℕ) (p q more answers : List (List ℕ))
    → CbcUnder Relates iv p q
    → CbcUnder Relates (next_vector iv q) more answers → CbcUnder Relates iv (p ++ more) (q ++ answers)
CbcUnder-append Relates iv p q more answers first second = record {
  count = length-append q answers ∙ ap₂ ◌+◌ first.count second.count ∙ sym (length-append p more);
  widths = λ n from to. elim (cases_lt (length p) n) [
    | inr front ↦ rw (at_front p more n from front) (first.widths n from front)
    | inl back ↦
        rw (at_back p more n back) (second.widths (n - length p) (omega arith) (omega (arith, length-append p more)))
  ];
  chained = λ n from to. elim (cases_lt (length p) n) [
    | inr front ↦
        let within : n ≤ length q = omega (arith, first.count) in
        rw (at_front p more n from front, before_front iv q answers n from within, at_front q answers n from within)
        (first.chained n from front)
    | inl back ↦
        let after : length q < n = omega (arith, first.count) in
        rw (at_back p more n back, before_back iv q answers n after, at_back q answers n after, first.count)
        (second.chained (n - length p) (omega arith) (omega (arith, length-append p more)))
  ];
}

pub CbcDecrypts-append : (decryption : List ℕ → List ℕ) (iv : List ℕ) (q p more answers : List (List ℕ))
    → CbcDecrypts decryption iv q p
    → CbcDecrypts decryption (next_vector iv q) more answers → CbcDecrypts decryption iv (q ++ more) (p ++ answers)
CbcDecrypts-append decryption iv q p more answers first second = record {
  count = length-append p answers ∙ ap₂ ◌+◌ first.count second.count ∙ sym (length-append q more);
  cbc_decrypted = λ n from to. elim (cases_lt (length q) n) [
    | inr front ↦
        let within : n ≤ length p = omega (arith, first.count) in
        rw (at_front p answers n from within, before_front iv q more n from front, at_front q more n from front)
        (first.cbc_decrypted n from front)
    | inl back ↦
        let after : length p < n = omega (arith, first.count) in
        rw (at_back p answers n after, before_back iv q more n back, at_back q more n back, first.count)
        (second.cbc_decrypted (n - length q) (omega arith) (omega (arith, length-append q more)))
  ];
}
