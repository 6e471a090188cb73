-- Groups of records, chained in step.
use Rattle.std.proofs.Common.{◌≡◌, ℕ, suc, ◌+◌, ◌-◌, ◌<◌, ◌≤◌, List, [], length, min, sum, get_or, refl, ap, ap₂, ◌∙◌, arith, inl, inr, subst}
use Rattle.std.specs.List.{All}
use Rattle.std.proofs.lemmas.Bool.{cases_lt}
use Rattle.des.specs.Blocks.{IsBlock}
use Rattle.des.specs.Cbc.{xor_blocks}
use Rattle.des_fast.specs.Records.{start, CbcEach, GoOn}
use Rattle.des_fast.specs.RecordStates.{chain_after, IsChained, AreChainedBelow, AreWritten}
use Rattle.des_fast.proofs.RecordPlaces.{end-within}
use Rattle.des_fast.proofs.AnsweredRecords.{IsAnswered-none, IsAnswered-kept, IsAnswered-more, Cbc-from_answered, next_vector-chained}

-- the records below `from` are chained, the next n as far as i steps take them, and the others are as they were
pub record AreInStep (f : List ℕ → List ℕ) (sizes : List ℕ) (first p vectors blocks : List (List ℕ))
    (from n i : ℕ) : Type 0 where
  pub done : (k : ℕ) → k < from → IsChained f sizes first p vectors blocks k (get_or sizes k 0)
  pub within : (k : ℕ) → k < n
      → IsChained f sizes first p vectors blocks (from + k) (min i (get_or sizes (from + k) 0))
  pub rest : (k : ℕ) → from + n ≤ k → k < length sizes → IsChained f sizes first p vectors blocks k 0

-- after the last
pub AreInStep-all : (f : List ℕ → List ℕ) (sizes : List ℕ) (first p vectors blocks : List (List ℕ)) (from n i : ℕ)
    → ((k : ℕ) → k < n → get_or sizes (from + k) 0 ≤ i) → AreInStep f sizes first p vectors blocks from n i
    → AreChainedBelow f sizes first p vectors blocks (from + n)
AreInStep-all f sizes first p vectors blocks from n i longest are = record {
  done = λ k below. elim (cases_lt k from) [
    | inl before ↦ are.done k before
    | inr past ↦
        let at : from + (k - from) ≡ k = omega arith in
        let all : min i (get_or sizes (from + (k - from)) 0) ≡ get_or sizes (from + (k - from)) 0 =
        omega (arith, longest (k - from) (omega arith)) in
        subst (λ (m : ℕ). IsChained f sizes first p vectors blocks m (get_or sizes m 0)) at
        (subst (λ (m : ℕ). IsChained f sizes first p vectors blocks (from + (k - from)) m) all
        (are.within (k - from) (omega arith)))
  ];
  rest = are.rest;
}

-- a record that has a block i more
record-more : (f : List ℕ → List ℕ) (sizes : List ℕ) (first p vectors blocks new_vectors new_blocks
    : List (List ℕ)) (k i : ℕ) (lane : List ℕ) → i < get_or sizes k 0
    → lane ≡ f (xor_blocks (get_or blocks (start sizes k + i) []) (get_or vectors k []))
    → get_or new_blocks (start sizes k + i) [] ≡ lane → get_or new_vectors k [] ≡ lane
    → ((j : ℕ) → j < get_or sizes k 0 → (j ≡ i → ⊥)
    → get_or new_blocks (start sizes k + j) [] ≡ get_or blocks (start sizes k + j) [])
    → IsChained f sizes first p vectors blocks k i → IsChained f sizes first p new_vectors new_blocks k (i + 1)
unfolding chain_after
record-more f sizes first p vectors blocks new_vectors new_blocks k i lane has made block vector others is =
    let chain : ℕ → List ℕ = chain_after f (get_or first k []) p (start sizes k) in
    let next : lane ≡ chain (suc i) = made ∙ ap f (ap₂ xor_blocks (is.left i (omega arith) has) is.end) in
    IsAnswered-more chain (λ j. chain (suc j)) p blocks new_blocks (start sizes k) (get_or sizes k 0)
    (get_or vectors k []) (get_or new_vectors k []) i has (vector ∙ next) (block ∙ next) others is

-- a step
pub AreInStep-more : (f : List ℕ → List ℕ) (sizes : List ℕ) (first p vectors blocks new_vectors new_blocks filled
    lanes : List (List ℕ)) (from n i : ℕ) → from + n ≤ length sizes
    → ((k : ℕ) → k < n → i < get_or sizes (from + k) 0 → get_or filled k []
    ≡ xor_blocks (get_or blocks (start sizes (from + k) + i) []) (get_or vectors (from + k) []))
    → ((k : ℕ) → k < n → get_or lanes k [] ≡ f (get_or filled k []))
    → AreWritten sizes from n i lanes vectors blocks new_vectors new_blocks
    → AreInStep f sizes first p vectors blocks from n i
    → AreInStep f sizes first p new_vectors new_blocks from n (i + 1)
AreInStep-more f sizes first p vectors blocks new_vectors new_blocks filled lanes from n i there xored answered
    written are = record {
      done = λ k below.
          IsAnswered-kept _ _ p blocks new_blocks (start sizes k) (get_or sizes k 0) (get_or vectors k [])
          (get_or new_vectors k []) (get_or sizes k 0) (omega arith) (written.before k below)
          (λ j low. written.blocks_before k j below (omega arith) low) (are.done k below);
      within = λ k below.
          let at : ℕ = from + k in
          let size : ℕ = get_or sizes at 0 in
          let inside : at < length sizes = omega arith in
          elim (cases_lt i size) [
            | inl has ↦
                let so_far : min i size ≡ i = omega arith in
                let next : i + 1 ≡ min (i + 1) size = omega arith in
                subst (λ (m : ℕ). IsChained f sizes first p new_vectors new_blocks at m) next
                (record-more f sizes first p vectors blocks new_vectors new_blocks at i (get_or lanes k []) has
                (answered k below ∙ ap f (xored k below has)) (written.block k below has) (written.vector
                k below has)
                (λ j low other. written.others at j inside low other)
                (subst (λ (m : ℕ). IsChained f sizes first p vectors blocks at m) so_far (are.within k below)))
            | inr over ↦
                let same : min i size ≡ min (i + 1) size = omega arith in
                subst (λ (m : ℕ). IsChained f sizes first p new_vectors new_blocks at m) same
                (IsAnswered-kept _ _ p blocks new_blocks (start sizes at) size (get_or vectors at [])
                (get_or new_vectors at []) (min i size) (omega arith) (written.ended k below (omega arith))
                (λ j low. written.others at j inside low (λ is. omega arith)) (are.within k below))
          ];
      rest = λ k past inside.
          IsAnswered-kept _ _ p blocks new_blocks (start sizes k) (get_or sizes k 0) (get_or vectors k [])
          (get_or new_vectors k []) 0 (omega arith) (written.past k past)
          (λ j low. written.blocks_past k j past inside low) (are.rest k past inside);
    }

-- ---- all records

-- none
pub AreChainedBelow-none : (f : List ℕ → List ℕ) (sizes : List ℕ) (vectors blocks : List (List ℕ))
    → AreChainedBelow f sizes vectors blocks vectors blocks 0
unfolding chain_after
AreChainedBelow-none f sizes vectors blocks = record {
  done = λ k below. absurd (omega arith);
  rest = λ k from inside.
      IsAnswered-none _ _ blocks (start sizes k) (get_or sizes k 0) (get_or vectors k []) refl;
}

-- all
pub CbcEach-all : (f : List ℕ → List ℕ) (sizes : List ℕ) (first p vectors blocks : List (List ℕ)) (n : ℕ)
    → length first ≡ length sizes → length p ≡ sum sizes → length blocks ≡ length p → All IsBlock p → length first ≤ n
    → AreChainedBelow f sizes first p vectors blocks n → CbcEach f sizes first p blocks
CbcEach-all f sizes first p vectors blocks n count whole same are_blocks all are k below =
    Cbc-from_answered f (get_or first k []) (get_or vectors k []) p blocks (start sizes k) (get_or sizes k 0)
    (omega (arith, end-within sizes k (omega arith))) same are_blocks (are.done k (omega arith))

pub GoOn-chained : (f : List ℕ → List ℕ) (sizes : List ℕ) (first p vectors blocks : List (List ℕ)) (n : ℕ)
    → length first ≡ length sizes → length p ≡ sum sizes → length blocks ≡ length p → length first ≤ n
    → AreChainedBelow f sizes first p vectors blocks n → GoOn sizes first blocks vectors
GoOn-chained f sizes first p vectors blocks n count whole same all are k below =
    next_vector-chained f (get_or first k []) (get_or vectors k []) p blocks (start sizes k) (get_or sizes k 0)
    (omega (arith, end-within sizes k (omega arith))) (are.done k (omega arith))
