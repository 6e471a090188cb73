-- Eight rows of which pairs make pairs.
use Rattle.std.proofs.Common.{◌≡◌, ℕ, zero, suc, ◌+◌, ◌*◌, ◌/◌, ◌%◌, ◌<◌, ◌≢◌, Bool, false, List, [], ◌∷◌, length, map, get_or, ap, sym, ◌∙◌, arith, inl, inr}
use Rattle.std.proofs.Math.ListN.{set}
use Rattle.std.proofs.lemmas.Bool.{cases_eq}
use Rattle.std.proofs.lemmas.List.{get_or-map, get_or-set_same, get_or-set_other}
use Rattle.des_fast.specs.Transposition.{ArePairwise}

-- the bit of one of a pair of rows is that of the row of all
bit-of_pair : {A : Type 0} (read : A → Bool) (rows : List A) (i t : ℕ) (d0 d1 : A) → t < 2 → 4 + i < length rows
    → get_or (map read (get_or rows i d0 ∷ get_or rows (4 + i) d1 ∷ [])) (1 * t + 0) false
    ≡ get_or (map read rows) (4 * t + i) false
bit-of_pair read rows i zero d0 d1 below inside =
    sym (get_or-map read rows i d0 false (omega arith)) ∙ ap (λ (k : ℕ). get_or (map read rows) k false) (omega arith)
bit-of_pair read rows i (suc zero) d0 d1 below inside =
    sym (get_or-map read rows (4 + i) d1 false inside) ∙ ap (λ (k : ℕ). get_or (map read rows) k false) (omega arith)
bit-of_pair read rows i (suc (suc t)) d0 d1 below inside = absurd (omega arith)

-- what a step takes a bit from is one of two rows
abbrev pub TakesFromPair : (ℕ → ℕ → ℕ × ℕ) → Type 0
TakesFromPair step = (t b : ℕ) → (step t b).0 < 2

-- a bit of a row of a pair, by the rows of all
at_pair : {A : Type 0} (batch : ℕ) (bit : ℕ → A → Bool) (step : ℕ → ℕ → ℕ × ℕ) (rows answer : List A) (i n : ℕ)
    (d0 d1 e : A) → TakesFromPair step → n < 2 → 4 + i < length rows → length answer ≡ 2
    → ArePairwise batch bit 1 step (get_or rows i d0 ∷ get_or rows (4 + i) d1 ∷ []) answer
    → (b : ℕ) → b < batch
    → bit b (get_or answer n e) ≡ get_or (map (bit (step (n % 2) b).1) rows) (4 * (step (n % 2) b).0 + i) false
at_pair batch bit step rows answer i zero d0 d1 e takes below inside two pair b within =
    sym (get_or-map (bit b) answer 0 e false (omega arith))
    ∙ pair 0 (omega arith) b within
    ∙ bit-of_pair (bit (step 0 b).1) rows i (step 0 b).0 d0 d1 (takes 0 b) inside
at_pair batch bit step rows answer i (suc zero) d0 d1 e takes below inside two pair b within =
    sym (get_or-map (bit b) answer 1 e false (omega arith))
    ∙ pair 1 (omega arith) b within
    ∙ bit-of_pair (bit (step 1 b).1) rows i (step 1 b).0 d0 d1 (takes 1 b) inside
at_pair batch bit step rows answer i (suc (suc n)) d0 d1 e takes below inside two pair b within = absurd (omega arith)

-- the rows of four pairs, side by side
pub ArePairwise-pairs : {A : Type 0} (batch : ℕ) (bit : ℕ → A → Bool) (step : ℕ → ℕ → ℕ × ℕ) (rows p q r s : List A)
    (a0 a1 a2 a3 a4 a5 a6 a7 e0 e1 e2 e3 e4 e5 e6 e7 : A) → TakesFromPair step → length rows ≡ 8
    → length p ≡ 2 → length q ≡ 2 → length r ≡ 2 → length s ≡ 2
    → ArePairwise batch bit 1 step (get_or rows 0 a0 ∷ get_or rows 4 a4 ∷ []) p
    → ArePairwise batch bit 1 step (get_or rows 1 a1 ∷ get_or rows 5 a5 ∷ []) q
    → ArePairwise batch bit 1 step (get_or rows 2 a2 ∷ get_or rows 6 a6 ∷ []) r
    → ArePairwise batch bit 1 step (get_or rows 3 a3 ∷ get_or rows 7 a7 ∷ []) s
    → ArePairwise batch bit 4 step rows
    (get_or p 0 e0 ∷ get_or p 1 e1 ∷ get_or q 0 e2 ∷ get_or q 1 e3 ∷ get_or r 0 e4 ∷ get_or r 1 e5 ∷ get_or s 0 e6
    ∷ get_or s 1 e7 ∷ [])
ArePairwise-pairs batch bit step rows p q r s a0 a1 a2 a3 a4 a5 a6 a7 e0 e1 e2 e3 e4 e5 e6 e7 takes eight lp lq lr ls
    is_p is_q is_r is_s m below b within =
    elim m as (λ k. k < 8 → get_or (map (bit b) (get_or p 0 e0 ∷ get_or p 1 e1 ∷ get_or q 0 e2 ∷ get_or q 1 e3
    ∷ get_or r 0 e4 ∷ get_or r 1 e5 ∷ get_or s 0 e6 ∷ get_or s 1 e7 ∷ [])) k false
    ≡ get_or (map (bit (step (k % 2) b).1) rows) (4 * (step (k % 2) b).0 + k / 2) false) [
      | zero ↦
          λ under. at_pair batch bit step rows p 0 0 a0 a4 e0 takes (omega arith) (omega arith) lp is_p b within
      | suc zero ↦
          λ under. at_pair batch bit step rows p 0 1 a0 a4 e1 takes (omega arith) (omega arith) lp is_p b within
      | suc (suc zero) ↦
          λ under. at_pair batch bit step rows q 1 0 a1 a5 e2 takes (omega arith) (omega arith) lq is_q b within
      | suc (suc (suc zero)) ↦
          λ under. at_pair batch bit step rows q 1 1 a1 a5 e3 takes (omega arith) (omega arith) lq is_q b within
      | suc (suc (suc (suc zero))) ↦
          λ under. at_pair batch bit step rows r 2 0 a2 a6 e4 takes (omega arith) (omega arith) lr is_r b within
      | suc (suc (suc (suc (suc zero)))) ↦
          λ under. at_pair batch bit step rows r 2 1 a2 a6 e5 takes (omega arith) (omega arith) lr is_r b within
      | suc (suc (suc (suc (suc (suc zero))))) ↦
          λ under. at_pair batch bit step rows s 3 0 a3 a7 e6 takes (omega arith) (omega arith) ls is_s b within
      | suc (suc (suc (suc (suc (suc (suc zero)))))) ↦
          λ under. at_pair batch bit step rows s 3 1 a3 a7 e7 takes (omega arith) (omega arith) ls is_s b within
      | suc (suc (suc (suc (suc (suc (suc (suc n))))))) ↦ λ under. absurd (omega arith)
    ] below

-- the places of eight rows: every eighth, from row i on, and those side by side, from row 8 * i on
abbrev pub apart_place : ℕ → ℕ → ℕ
apart_place i j = 8 * j + i

abbrev pub beside_place : ℕ → ℕ → ℕ
beside_place i j = 8 * i + j

-- the bits of the first of eight rows are written at their places, and no other place is
abbrev pub AreWrittenAt : (ℕ → ℕ) → List Bool → List Bool → List Bool → ℕ → Type 0
AreWrittenAt place eight old new count =
    ((j : ℕ) → j < count → get_or new (place j) false ≡ get_or eight j false)
    × ((m : ℕ) → ((j : ℕ) → j < 8 → m ≢ place j) → get_or new m false ≡ get_or old m false)

-- one more
pub AreWrittenAt-more : (place : ℕ → ℕ) (eight old new next : List Bool) (j : ℕ) (value : Bool)
    → j < 8 → place j < length new → ((k : ℕ) → k < j → place k ≢ place j) → value ≡ get_or eight j false
    → next ≡ set new (place j) value
    → AreWrittenAt place eight old new j → AreWrittenAt place eight old next (j + 1)
AreWrittenAt-more place eight old new next j value below inside apart is written are = (
  λ k low.
      ap (λ (bits : List Bool). get_or bits (place k) false) written
      ∙ elim (cases_eq k j) [
        | inl same ↦
            ap (λ (i : ℕ). get_or (set new (place j) value) (place i) false) same
            ∙ get_or-set_same new (place j) value false inside
            ∙ is
            ∙ ap (λ (i : ℕ). get_or eight i false) (sym same)
        | inr other ↦
            let lower : k < j = omega arith in
            get_or-set_other new (place j) (place k) value false (apart k lower) ∙ are.0 k lower
      ],
  λ m elsewhere.
      ap (λ (bits : List Bool). get_or bits m false) written
      ∙ get_or-set_other new (place j) m value false (elsewhere j below)
      ∙ are.1 m elsewhere,
)
