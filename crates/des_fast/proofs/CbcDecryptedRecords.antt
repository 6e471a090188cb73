-- Records out of their chains, block after block of the list.
use Rattle.std.proofs.Common.{◌≡◌, ◌≢◌, ℕ, ◌+◌, ◌-◌, ◌<◌, ◌≤◌, List, [], length, min, sum, get_or, ap, ap₂, sym, ◌∙◌, arith, inl, inr, subst}
use Rattle.std.proofs.Math.ListN.{set}
use Rattle.std.proofs.lemmas.Bool.{cases_lt, cases_eq}
use Rattle.std.proofs.lemmas.List.{get_or-set_same, get_or-set_other}
use Rattle.des.specs.Cbc.{xor_blocks}
use Rattle.des_fast.specs.Records.{start, CbcDecryptsEach, GoOn}
use Rattle.des_fast.specs.RecordStates.{HasBlock, cipher_before, IsCbcDecrypted, AreCbcDecryptedBelow}
use Rattle.des_fast.proofs.RecordPlaces.{end-le, end-within, records-apart}
use Rattle.des_fast.proofs.AnsweredRecords.{IsAnswered-kept, IsAnswered-more, CbcDecrypts-from_answered, next_vector-cbc_decrypted}

-- a block more of another record
reached-other : (sizes : List ℕ) (k m place : ℕ) → k < length sizes → m < length sizes → k ≢ m
    → start sizes m ≤ place → place < start sizes m + get_or sizes m 0
    → min (place - start sizes k) (get_or sizes k 0) ≡ min (place + 1 - start sizes k) (get_or sizes k 0)
reached-other sizes k m place in_k in_m other from to =
    elim (cases_lt k m) [
      | inl before ↦ omega (arith, end-le sizes k m before (omega arith))
      | inr past ↦
          elim (cases_lt m k) [
            | inl after ↦ omega (arith, end-le sizes m k after (omega arith))
            | inr same ↦ absurd (other (omega arith))
          ]
    ]

-- a block more, of record m
pub AreCbcDecryptedBelow-more : (f : List ℕ → List ℕ) (sizes : List ℕ) (first q vectors blocks : List (List ℕ))
    (m place : ℕ) (answer : List ℕ) → HasBlock sizes m place → length vectors ≡ length sizes
    → length blocks ≡ sum sizes → answer ≡ f (get_or blocks place [])
    → AreCbcDecryptedBelow f sizes first q vectors blocks place
    → AreCbcDecryptedBelow f sizes first q (set vectors m (get_or blocks place []))
    (set blocks place (xor_blocks answer (get_or vectors m []))) (place + 1)
AreCbcDecryptedBelow-more f sizes first q vectors blocks m place answer has in_vectors in_blocks answered are k inside =
    let there : m < length sizes = has.there in
    let from : start sizes m ≤ place = has.from in
    let to : place < start sizes m + get_or sizes m 0 = has.to in
    let old : List ℕ = get_or blocks place [] in
    let new : List ℕ = xor_blocks answer (get_or vectors m []) in
    let n : ℕ = place - start sizes m in
    let size : ℕ = get_or sizes m 0 in
    let at : start sizes m + n ≡ place = omega arith in
    let below_end : place < length blocks = omega (arith, end-within sizes m there) in
    elim (cases_eq k m) [
      | inl same ↦
          let before : ℕ → List ℕ = cipher_before (get_or first m []) q (start sizes m) in
          let so_far : min n size ≡ n = omega arith in
          let next : n + 1 ≡ min (place + 1 - start sizes m) size = omega arith in
          let is : IsCbcDecrypted f sizes first q vectors blocks m n =
          subst (λ (l : ℕ). IsCbcDecrypted f sizes first q vectors blocks m l) so_far (are m there) in
          let block : old ≡ get_or q (start sizes m + n) [] =
          ap (λ (l : ℕ). get_or blocks l []) (sym at) ∙ is.left n (omega arith) (omega arith) in
          subst (λ (l : ℕ). IsCbcDecrypted f sizes first q (set vectors m old) (set blocks place new) l
          (min (place + 1 - start sizes l) (get_or sizes l 0))) (sym same)
          (subst (λ (l : ℕ). IsCbcDecrypted f sizes first q (set vectors m old) (set blocks place new) m l) next
          (IsAnswered-more before (λ j. xor_blocks (f (get_or q (start sizes m + j) [])) (before j)) q blocks
          (set blocks place new) (start sizes m) size (get_or vectors m []) (get_or (set vectors m old) m []) n
          (omega arith)
          (get_or-set_same vectors m old [] (omega arith) ∙ block)
          (ap (λ (l : ℕ). get_or (set blocks place new) l []) at
          ∙ get_or-set_same blocks place new [] below_end
          ∙ ap₂ xor_blocks (answered ∙ ap f block) is.end)
          (λ j low other. get_or-set_other blocks place (start sizes m + j) new [] (λ is. other (omega arith))) is))
      | inr other ↦
          subst (λ (l : ℕ). IsCbcDecrypted f sizes first q (set vectors m old) (set blocks place new) k l)
          (reached-other sizes k m place inside there other from to)
          (IsAnswered-kept _ _ q blocks (set blocks place new) (start sizes k) (get_or sizes k 0)
          (get_or vectors k []) (get_or (set vectors m old) k [])
          (min (place - start sizes k) (get_or sizes k 0)) (omega arith)
          (get_or-set_other vectors m k old [] other)
          (λ j low. get_or-set_other blocks place (start sizes k + j) new []
          (λ is. records-apart sizes k m j n inside there other low (omega arith) (omega arith)))
          (are k inside))
    ]

-- a record that is out of its chain
record-all : (f : List ℕ → List ℕ) (sizes : List ℕ) (first q vectors blocks : List (List ℕ)) (place k : ℕ)
    → k < length sizes → sum sizes ≤ place → AreCbcDecryptedBelow f sizes first q vectors blocks place
    → IsCbcDecrypted f sizes first q vectors blocks k (get_or sizes k 0)
record-all f sizes first q vectors blocks place k inside all are =
    let reached : min (place - start sizes k) (get_or sizes k 0) ≡ get_or sizes k 0 =
    omega (arith, end-within sizes k inside) in
    subst (λ (n : ℕ). IsCbcDecrypted f sizes first q vectors blocks k n) reached (are k inside)

-- all
pub CbcDecryptsEach-all : (f : List ℕ → List ℕ) (sizes : List ℕ) (first q vectors blocks : List (List ℕ)) (place : ℕ)
    → length first ≡ length sizes → length q ≡ sum sizes → length blocks ≡ length q → length q ≤ place
    → AreCbcDecryptedBelow f sizes first q vectors blocks place → CbcDecryptsEach f sizes first q blocks
CbcDecryptsEach-all f sizes first q vectors blocks place count whole same all are k below =
    CbcDecrypts-from_answered f (get_or first k []) (get_or vectors k []) q blocks (start sizes k) (get_or sizes k 0)
    (omega (arith, end-within sizes k (omega arith))) same
    (record-all f sizes first q vectors blocks place k (omega arith) (omega arith) are)

pub GoOn-cbc_decrypted : (f : List ℕ → List ℕ) (sizes : List ℕ) (first q vectors blocks : List (List ℕ)) (place : ℕ)
    → length first ≡ length sizes → length q ≡ sum sizes → length q ≤ place
    → AreCbcDecryptedBelow f sizes first q vectors blocks place → GoOn sizes first q vectors
GoOn-cbc_decrypted f sizes first q vectors blocks place count whole all are k below =
    next_vector-cbc_decrypted _ (get_or first k []) (get_or vectors k []) q blocks (start sizes k) (get_or sizes k 0)
    (omega (arith, end-within sizes k (omega arith)))
    (record-all f sizes first q vectors blocks place k (omega arith) (omega arith) are)
