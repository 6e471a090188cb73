-- Columns that are written, and the texts that they are written of.
use Rattle.std.proofs.Common.{◌≡◌, ℕ, ◌+◌, ◌-◌, ◌≤◌, ◌<◌, List, [], ◌∷◌, ◌++◌, length, take, drop, get_or, sum, refl, ap, ap₂, sym, ◌∙◌, subst, arith, below_more, append-nil}
use Rattle.std.specs.List.{All, sum_by}
use Rattle.std.proofs.lemmas.List.{get_or_append_left, get_or_push, length-drop, length-take-le, length_push, take_all, take_more}
use Rattle.std.proofs.lemmas.List.Concat.{flat_map-append}
use Rattle.std.proofs.lemmas.List.Sums.{sum_by-take-le, sum_by_more, sum_by_more_le}
use Rattle.std.proofs.lemmas.Slice.{take-put_mid}
use Rattle.des_columns.specs.Columns.{pieces}
use Rattle.des_columns.specs.Writings.{IsColumnWritten, IsTextSize}
use Rattle.des_columns.specs.declared.form.ValueForm.{ValueForm}
use Rattle.des_columns.proofs.Pieces.{length-pieces, pieces-at}
use borrow.Rule.Slice.PartMut.{put_mid}

module _ (size_of : ℕ → ℕ) (Writes : List ℕ → List ℕ → Type 0) where
  pub written-none : IsColumnWritten size_of Writes [] []
  written-none = record {
    written = [];
    count = refl;
    sizes = λ k below. absurd (omega (arith, below));
    writes = λ k below. absurd (omega (arith, below));
    places = refl;
  }

  written-more : (texts : List (List ℕ)) (values text value : List ℕ) → length value ≡ size_of (length text) → Writes text value
      → IsColumnWritten size_of Writes texts values → IsColumnWritten size_of Writes (texts ++ text ∷ []) (values ++ value)
  written-more texts values text value size writes column =
      let all : List (List ℕ) = texts ++ text ∷ [] in
      let made : List (List ℕ) = column.written ++ value ∷ [] in
      let each : (k : ℕ) → k < length texts + 1
      → (length (get_or made k []) ≡ size_of (length (get_or all k []))) × Writes (get_or all k []) (get_or made k []) =
      below_more
      (λ k. (length (get_or made k []) ≡ size_of (length (get_or all k []))) × Writes (get_or all k []) (get_or made k []))
      (length texts)
      (λ k before. rw (
        get_or_append_left texts (text ∷ []) [] k before,
        get_or_append_left column.written (value ∷ []) [] k (omega (arith, before, column.count)),
      ) (column.sizes k before, column.writes k before))
      (rw (get_or_push texts text [] (length texts) refl, get_or_push column.written value [] (length texts) column.count)
      (size, writes)) in
      record {
        written = made;
        count = length_push column.written value ∙ ap (λ n. n + 1) column.count ∙ sym (length_push texts text);
        sizes = λ k below. (each k (omega (arith, below, length_push texts text))).0;
        writes = λ k below. (each k (omega (arith, below, length_push texts text))).1;
        places =
            ap₂ ◌++◌ column.places (sym (append-nil value)) ∙ sym (flat_map-append (λ block. block) column.written (value ∷ []));
      }

-- ---- the values of the texts before k, one after another: that of a text of n bytes has `span_of n`

module _ (size_of span_of : ℕ → ℕ) (Writes : List ℕ → List ℕ → Type 0) (texts : List (List ℕ)) (lengths values : List ℕ)
    (k start : ℕ) (capacity : length values ≡ sum_by span_of lengths) (count : length texts ≡ length lengths)
    (to : start ≡ sum_by span_of (take k lengths)) (column : IsColumnWritten size_of Writes (take k texts) (take start values)) where
  -- with one more
  pub written-next : (span : ℕ) (text value : List ℕ) → k < length lengths → span ≡ span_of (get_or lengths k 0)
      → length value ≡ length (take (start + span - start) (drop start values)) → get_or texts k [] ≡ text
      → span ≡ size_of (length text) → Writes text value
      → (start + span ≡ sum_by span_of (take (k + 1) lengths))
      × IsColumnWritten size_of Writes (take (k + 1) texts)
      (take (start + span) (put_mid start (start + span - start) values value))
  written-next span text value below spans as_long is size writes =
      let next : start + span ≡ sum_by span_of (take (k + 1) lengths) =
      ap₂ ◌+◌ to spans ∙ sym (sum_by_more span_of lengths k 0 below) in
      let inside : start + span ≤ length values = omega (arith, next, sum_by-take-le span_of lengths (k + 1), capacity) in
      let placed : length value ≡ span =
      as_long
      ∙ length-take-le (start + span - start) (drop start values) (omega (arith, length-drop start values, inside))
      ∙ omega arith in (
        next,
        rw (
          take_more texts k [] (omega (arith, count, below)),
          is,
          take-put_mid start (start + span - start) values value (start + span) (omega (arith, placed)) (omega (arith, inside)),
        ) (written-more size_of Writes (take k texts) (take start values) text value (placed ∙ size) writes column),
      )

  -- if they are all
  pub written-end : length lengths ≤ k → IsColumnWritten size_of Writes texts values
  written-end all =
      let end : start ≡ length values = to ∙ ap (sum_by span_of) (take_all k lengths all) ∙ sym capacity in
      rw (take_all k texts (omega (arith, count, all)), take_all start values (omega (arith, end))) at column

-- ---- the texts of a column

-- the next text, and where it ends
pub text-next : (lengths bytes : List ℕ) (k from size : ℕ) → sum lengths ≡ length bytes → from ≡ sum (take k lengths)
    → k < length lengths → size ≡ get_or lengths k 0
    → (length (take size (drop from bytes)) ≡ get_or lengths k 0)
    × (from + length (take size (drop from bytes)) ≡ sum (take (k + 1) lengths))
text-next lengths bytes k from size whole at below is =
    let within : from + get_or lengths k 0 ≤ length bytes =
    omega (arith, sum_by_more_le (λ n. n) lengths k 0 below, whole, at) in
    let long : length (take size (drop from bytes)) ≡ get_or lengths k 0 =
    length-take-le size (drop from bytes) (omega (arith, length-drop from bytes, within, is)) ∙ is in
    (long, ap₂ ◌+◌ at long ∙ sym (sum_by_more (λ n. n) lengths k 0 below))

-- a text is as long as it is said to be
pub length-piece : (lengths bytes : List ℕ) (k : ℕ) → k < length lengths → sum lengths ≡ length bytes
    → length (get_or (pieces lengths bytes) k []) ≡ get_or lengths k 0
length-piece lengths bytes k below whole =
    ap length (pieces-at lengths bytes k below)
    ∙ (text-next lengths bytes k (sum (take k lengths)) (get_or lengths k 0) whole refl below refl).0

pub texts-sized : (form : ValueForm) (lengths bytes : List ℕ) → sum lengths ≡ length bytes → All (IsTextSize form) lengths
    → (k : ℕ) → k < length (pieces lengths bytes) → IsTextSize form (length (get_or (pieces lengths bytes) k []))
texts-sized form lengths bytes whole sized k below =
    let inside : k < length lengths = omega (arith, below, length-pieces lengths bytes) in
    subst (IsTextSize form) (sym (length-piece lengths bytes k inside whole)) (sized k 0 inside)
