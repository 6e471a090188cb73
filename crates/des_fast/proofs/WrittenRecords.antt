-- A block of each record, written from lanes.
use Rattle.std.proofs.Common.{◌≡◌, ◌≢◌, ℕ, ◌+◌, ◌<◌, ◌≤◌, List, [], length, sum, get_or, ap, sym, ◌∙◌, arith, inl, inr}
use Rattle.std.proofs.Math.ListN.{set}
use Rattle.std.proofs.lemmas.Bool.{cases_eq}
use Rattle.std.proofs.lemmas.List.{get_or-set_same, get_or-set_other}
use Rattle.des_fast.specs.Records.{start}
use Rattle.des_fast.specs.RecordStates.{AreWritten}
use Rattle.des_fast.proofs.RecordPlaces.{end-within, records-apart, blocks-apart}

-- of a record more, which has ended
pub AreWritten-ended : (sizes : List ℕ) (from n i : ℕ) (lanes vectors blocks new_vectors new_blocks : List (List ℕ))
    → get_or sizes (from + n) 0 ≤ i → AreWritten sizes from n i lanes vectors blocks new_vectors new_blocks
    → AreWritten sizes from (n + 1) i lanes vectors blocks new_vectors new_blocks
AreWritten-ended sizes from n i lanes vectors blocks new_vectors new_blocks short are = record {
  block = λ k below has. elim (cases_eq k n) [
    | inl same ↦ absurd (omega (arith, ap (λ (m : ℕ). get_or sizes (from + m) 0) same))
    | inr other ↦ are.block k (omega arith) has
  ];
  vector = λ k below has. elim (cases_eq k n) [
    | inl same ↦ absurd (omega (arith, ap (λ (m : ℕ). get_or sizes (from + m) 0) same))
    | inr other ↦ are.vector k (omega arith) has
  ];
  ended = λ k below over. elim (cases_eq k n) [
    | inl same ↦ are.past (from + k) (omega arith)
    | inr other ↦ are.ended k (omega arith) over
  ];
  others = are.others;
  before = are.before;
  past = λ k above. are.past k (omega arith);
  blocks_before = are.blocks_before;
  blocks_past = λ k j above inside low. are.blocks_past k j (omega arith) inside low;
}

-- of a record more
pub AreWritten-more : (sizes : List ℕ) (from n i : ℕ) (lanes vectors blocks new_vectors new_blocks : List (List ℕ))
    → from + n < length sizes → length new_vectors ≡ length sizes → length new_blocks ≡ sum sizes
    → i < get_or sizes (from + n) 0 → AreWritten sizes from n i lanes vectors blocks new_vectors new_blocks
    → AreWritten sizes from (n + 1) i lanes vectors blocks (set new_vectors (from + n) (get_or lanes n []))
    (set new_blocks (start sizes (from + n) + i) (get_or lanes n []))
AreWritten-more sizes from n i lanes vectors blocks new_vectors new_blocks there in_vectors in_blocks long are =
    let at : ℕ = from + n in
    let place : ℕ = start sizes at + i in
    let lane : List ℕ = get_or lanes n [] in
    let below_end : place < length new_blocks = omega (arith, end-within sizes at there) in
    let kept_block : (p : ℕ) → p ≢ place → get_or (set new_blocks place lane) p [] ≡ get_or new_blocks p [] =
    λ p other. get_or-set_other new_blocks place p lane [] other in
    let kept_vector : (k : ℕ) → k ≢ at → get_or (set new_vectors at lane) k [] ≡ get_or new_vectors k [] =
    λ k other. get_or-set_other new_vectors at k lane [] other in
    record {
      block = λ k below has. elim (cases_eq k n) [
        | inl same ↦
            ap (λ (m : ℕ). get_or (set new_blocks place lane) (start sizes (from + m) + i) []) same
            ∙ get_or-set_same new_blocks place lane [] below_end
            ∙ ap (λ (m : ℕ). get_or lanes m []) (sym same)
        | inr other ↦
            kept_block (start sizes (from + k) + i)
            (records-apart sizes (from + k) at i i (omega arith) there (λ same. other (omega arith)) has long)
            ∙ are.block k (omega arith) has
      ];
      vector = λ k below has. elim (cases_eq k n) [
        | inl same ↦
            ap (λ (m : ℕ). get_or (set new_vectors at lane) (from + m) []) same
            ∙ get_or-set_same new_vectors at lane [] (omega arith)
            ∙ ap (λ (m : ℕ). get_or lanes m []) (sym same)
        | inr other ↦ kept_vector (from + k) (λ same. other (omega arith)) ∙ are.vector k (omega arith) has
      ];
      ended = λ k below over. elim (cases_eq k n) [
        | inl same ↦ absurd (omega (arith, ap (λ (m : ℕ). get_or sizes (from + m) 0) same))
        | inr other ↦ kept_vector (from + k) (λ same. other (omega arith)) ∙ are.ended k (omega arith) over
      ];
      others = λ k j inside low other.
          kept_block (start sizes k + j) (blocks-apart sizes k at j i inside there low long other)
          ∙ are.others k j inside low other;
      before = λ k below. kept_vector k (λ same. omega arith) ∙ are.before k below;
      past = λ k above. kept_vector k (λ same. omega arith) ∙ are.past k (omega arith);
      blocks_before = λ k j below inside low.
          kept_block (start sizes k + j) (records-apart sizes k at j i inside there (λ same. omega arith) low long)
          ∙ are.blocks_before k j below inside low;
      blocks_past = λ k j above inside low.
          kept_block (start sizes k + j) (records-apart sizes k at j i inside there (λ same. omega arith) low long)
          ∙ are.blocks_past k j (omega arith) inside low;
    }
