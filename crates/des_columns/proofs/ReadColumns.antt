-- Columns that are read: of one value, of some and others behind them, and of the first values.
use Rattle.std.proofs.Common.{◌≡◌, ℕ, ℤ, ◌+◌, ◌≤◌, ◌<◌, List, [], ◌∷◌, ◌++◌, length, take, drop, get_or, refl, ap, ap₂, sym, ◌∙◌, subst, arith, sum, below_more}
use Rattle.std.specs.Simd.Lanes.{zip2}
use Rattle.std.proofs.Math.ListN.{set}
use Rattle.std.proofs.lemmas.List.{append-nil, get_or_append_left, get_or_push, length_push, length-append, map-append, length-drop, length-take-le, take_all, take_more, take_more_set}
use Rattle.std.proofs.lemmas.List.Concat.{flat_map-append}
use Rattle.std.proofs.lemmas.List.Sums.{sum_by_more, sum_by_more_le}
use Rattle.std.proofs.lemmas.Slice.{take-put_mid}
use Rattle.des_fast.proofs.SliceBits.{zip2-append}
use Rattle.std.proofs.lemmas.List.Elements.{All-drop, All-take}
use Rattle.des.specs.Blocks.{AreBytes}
use Rattle.des_columns.specs.EncryptedBytes.{joined}
use Rattle.des_columns.specs.Forms.{filled_to}
use Rattle.des_columns.specs.Readings.{IsColumnRead}
use Rattle.des_columns.specs.declared.form.Reading.{Reading}
use Rattle.des_columns.specs.declared.status.TheConstants.{OK}
use Rattle.des_columns.specs.Columns.{pieces}
use Rattle.des_columns.proofs.Pieces.{length-pieces, pieces-at, value-at}
use borrow.Rule.Slice.PartMut.{put_mid}

-- by what follows for each value, if they are bytes
pub column-weaker : (P Q : List ℕ → ℤ → List ℕ → Type 0) (lengths bytes texts text_lengths : List ℕ) (statuses : List ℤ)
    → AreBytes bytes
    → ((value : List ℕ) (status : ℤ) (text : List ℕ) → AreBytes value → P value status text → Q value status text)
    → IsColumnRead P (pieces lengths bytes) texts text_lengths statuses
    → IsColumnRead Q (pieces lengths bytes) texts text_lengths statuses
column-weaker P Q lengths bytes texts text_lengths statuses are weaker column = record {
  read = column.read;
  count = column.count;
  statuses_count = column.statuses_count;
  reads = λ k below.
      let start : ℕ = sum (take k lengths) in
      weaker _ _ _ (subst AreBytes (sym (pieces-at lengths bytes k (omega (arith, below, length-pieces lengths bytes))))
      (All-take (λ byte. byte < 256) (get_or lengths k 0) (drop start bytes) (All-drop (λ byte. byte < 256) start bytes are)))
      (column.reads k below);
  lengths = column.lengths;
  places = column.places;
}

-- a value is read: its status, and its text in its place, before zeros
pub record IsRead (Reads : List ℕ → ℤ → List ℕ → Type 0) (value : List ℕ) (reading : Reading) (place : List ℕ) : Type 0 where
  pub text : List ℕ
  pub reads : Reads value reading.status text
  pub length_is : reading.length ≡ length text
  pub placed : place ≡ filled_to (length value) text

module _ (Reads : List ℕ → ℤ → List ℕ → Type 0) where
  pub column-none : IsColumnRead Reads [] [] [] []
  column-none = record {
    read = [];
    count = refl;
    statuses_count = refl;
    reads = λ k below. absurd (omega (arith, below));
    lengths = refl;
    places = refl;
  }

  column-more : (vs : List (List ℕ)) (ts ls : List ℕ) (ss : List ℤ) (value place text : List ℕ) (status : ℤ)
      → Reads value status text → place ≡ filled_to (length value) text → IsColumnRead Reads vs ts ls ss
      → IsColumnRead Reads (vs ++ value ∷ []) (ts ++ place) (ls ++ length text ∷ []) (ss ++ status ∷ [])
  column-more vs ts ls ss value place text status reads is column =
      let fill : List ℕ → List ℕ → List ℕ = λ value text. filled_to (length value) text in
      record {
        read = column.read ++ text ∷ [];
        count = length-append column.read (text ∷ []) ∙ ap (λ n. n + 1) column.count ∙ sym (length-append vs (value ∷ []));
        statuses_count =
            length-append ss (status ∷ []) ∙ ap (λ n. n + 1) column.statuses_count ∙ sym (length-append vs (value ∷ []));
        reads = λ k below.
            below_more
            (λ k. Reads (get_or (vs ++ value ∷ []) k []) (get_or (ss ++ status ∷ []) k OK) (get_or (column.read ++ text ∷ []) k []))
            (length vs) (λ k before. rw (
              get_or_append_left vs (value ∷ []) [] k before,
              get_or_append_left ss (status ∷ []) OK k (omega (arith, before, column.statuses_count)),
              get_or_append_left column.read (text ∷ []) [] k (omega (arith, before, column.count)),
            ) (column.reads k before))
            (rw (
              get_or_push vs value [] (length vs) refl,
              get_or_push ss status OK (length vs) column.statuses_count,
              get_or_push column.read text [] (length vs) column.count,
            ) reads) k (omega (arith, below, length_push vs value));
        lengths = ap (λ l. l ++ length text ∷ []) column.lengths ∙ sym (map-append length column.read (text ∷ []));
        places =
            ap₂ ◌++◌ column.places (is ∙ sym (append-nil (fill value text)))
            ∙ sym (flat_map-append (λ block. block) (zip2 fill vs column.read) (fill value text ∷ []))
            ∙ ap joined (sym (zip2-append fill vs (value ∷ []) column.read (text ∷ []) (sym column.count)));
      }

  -- the values before k, by their lengths: with one more, and if they are all
  module _ (lengths bytes texts text_lengths : List ℕ) (statuses : List ℤ) (k start : ℕ) (whole : sum lengths ≡ length bytes)
      (t : length texts ≡ length bytes) (l : length text_lengths ≡ length lengths) (s : length statuses ≡ length lengths)
      (at : start ≡ sum (take k lengths))
      (column : IsColumnRead Reads (take k (pieces lengths bytes)) (take start texts) (take k text_lengths) (take k statuses)) where
    pub column-next : (size : ℕ) (reading : Reading) (status : ℤ) (place : List ℕ) → k < length lengths
        → size ≡ get_or lengths k 0 → length place ≡ length (take size (drop start texts)) → status ≡ reading.status
        → IsRead Reads (take size (drop start bytes)) reading place
        → (start + get_or lengths k 0 ≡ sum (take (k + 1) lengths))
        × IsColumnRead Reads (take (k + 1) (pieces lengths bytes))
        (take (start + get_or lengths k 0) (put_mid start size texts place))
        (take (k + 1) (set text_lengths k reading.length)) (take (k + 1) (set statuses k status))
    column-next size reading status place below is as_long told read =
        let vs : List (List ℕ) = pieces lengths bytes in
        let value : List ℕ = take size (drop start bytes) in
        let within : start + get_or lengths k 0 ≤ length texts =
        omega (arith, sum_by_more_le (λ n. n) lengths k 0 below, whole, t, at) in
        let placed : length place ≡ size =
        as_long ∙ length-take-le size (drop start texts) (omega (arith, length-drop start texts, within, is)) in (
          ap (λ n. n + get_or lengths k 0) at ∙ sym (sum_by_more (λ n. n) lengths k 0 below),
          rw (
            take_more vs k [] (omega (arith, length-pieces lengths bytes, below)),
            sym (value-at lengths bytes k start size below at is),
            take-put_mid start size texts place (start + get_or lengths k 0) (omega (arith, placed, is)) (omega (arith, within)),
            take_more_set text_lengths k reading.length (omega (arith, below, l)),
            read.length_is,
            take_more_set statuses k status (omega (arith, below, s)),
            told,
          ) (column-more (take k vs) (take start texts) (take k text_lengths) (take k statuses) value place read.text
              reading.status read.reads read.placed column),
        )

    pub column-end : length lengths ≤ k → IsColumnRead Reads (pieces lengths bytes) texts text_lengths statuses
    column-end all =
        let end : start ≡ length bytes = at ∙ ap sum (take_all k lengths all) ∙ whole in
        rw (
          take_all k (pieces lengths bytes) (omega (arith, length-pieces lengths bytes, all)),
          take_all start texts (omega (arith, end, t)),
          take_all k text_lengths (omega (arith, l, all)),
          take_all k statuses (omega (arith, s, all)),
        ) at column
