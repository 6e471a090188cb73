-- The texts of a column, each in its value's place.
use Rattle.std.proofs.Common.{◌≡◌, ℕ, zero, suc, ◌+◌, ◌-◌, ◌≤◌, List, [], ◌∷◌, ◌++◌, length, length-append, map, take, drop, get_or, sum, replicate, append_assoc, refl, sym, ap, ◌∙◌, arith}
use Rattle.std.proofs.lemmas.List.{length-replicate}
use Rattle.std.proofs.Math.Seq.{take-append_seam, drop-append_seam, drop-append-add}
use Rattle.std.specs.List.{concat, flat_map}
use Rattle.std.proofs.lemmas.List.Sums.{sum_by-cons}
use Rattle.std.specs.Simd.Lanes.{zip2}
use Rattle.des_columns.specs.Columns.{pieces}
use Rattle.des_columns.specs.Forms.{filled_to}

abbrev pub placed : (values texts : List (List ℕ)) → List ℕ
placed values texts = flat_map (λ text. text) (zip2 (λ value text. filled_to (length value) text) values texts)

-- the pieces of values that were joined
pub pieces-concat : (values : List (List ℕ)) → pieces (map length values) (concat values) ≡ values
pieces-concat [] = refl
pieces-concat (value ∷ values) =
    rw (take-append_seam value (concat values), drop-append_seam value (concat values), pieces-concat values) refl

pub length-concat : (values : List (List ℕ)) → length (concat values) ≡ sum (map length values)
length-concat [] = refl
length-concat (value ∷ values) =
    length-append value (concat values) ∙ ap (λ (n : ℕ). length value + n) (length-concat values)
    ∙ sym (sum_by-cons (λ (n : ℕ). n) (length value) (map length values))

length-filled : (size : ℕ) (text : List ℕ) → length (filled_to size text) ≡ length text + (size - length text)
length-filled size text =
    length-append text (replicate (size - length text) 0)
    ∙ ap (λ (n : ℕ). length text + n) (length-replicate (size - length text) 0)

-- a place has at least the bytes of its value
least : (values texts : List (List ℕ)) → length texts ≡ length values
    → sum (map length values) ≤ length (placed values texts)
least [] texts count = omega arith
least (value ∷ values) [] count = cc
least (value ∷ values) (text ∷ texts) count =
    let front : List ℕ = filled_to (length value) text in
    omega (
      arith,
      sum_by-cons (λ (n : ℕ). n) (length value) (map length values),
      length-append front (placed values texts),
      length-filled (length value) text,
      least values texts (omega (arith, count)),
    )

-- if all places together have the bytes of the values, no text is longer than its value
pub all_within : (values texts : List (List ℕ)) → length texts ≡ length values
    → length (placed values texts) ≡ sum (map length values)
    → (k : ℕ) → length (get_or texts k []) ≤ length (get_or values k [])
all_within [] [] count all k = omega arith
all_within [] (text ∷ texts) count all k = cc
all_within (value ∷ values) [] count all k = cc
all_within (value ∷ values) (text ∷ texts) count all zero =
    let front : List ℕ = filled_to (length value) text in
    omega (
      arith,
      all,
      sum_by-cons (λ (n : ℕ). n) (length value) (map length values),
      length-append front (placed values texts),
      length-filled (length value) text,
      least values texts (omega (arith, count)),
    )
all_within (value ∷ values) (text ∷ texts) count all (suc k) =
    let front : List ℕ = filled_to (length value) text in
    let rest : length (placed values texts) ≡ sum (map length values) =
    omega (
      arith,
      all,
      sum_by-cons (λ (n : ℕ). n) (length value) (map length values),
      length-append front (placed values texts),
      length-filled (length value) text,
      least values texts (omega (arith, count)),
    ) in
    all_within values texts (omega (arith, count)) rest k

-- where a text stands
pub text_placed : (values texts : List (List ℕ)) (k : ℕ) → length texts ≡ length values
    → ((j : ℕ) → length (get_or texts j []) ≤ length (get_or values j []))
    → take (length (get_or texts k [])) (drop (sum (take k (map length values))) (placed values texts)) ≡ get_or texts k []
text_placed [] [] k count fits = refl
text_placed [] (text ∷ texts) k count fits = cc
text_placed (value ∷ values) [] k count fits = cc
text_placed (value ∷ values) (text ∷ texts) zero count fits =
    ap (take (length text)) (append_assoc text (replicate (length value - length text) 0) (placed values texts))
    ∙ take-append_seam text (replicate (length value - length text) 0 ++ placed values texts)
text_placed (value ∷ values) (text ∷ texts) (suc k) count fits =
    let front : List ℕ = filled_to (length value) text in
    let rest : List ℕ = placed values texts in
    let before : ℕ = sum (take k (map length values)) in
    let found : List ℕ = get_or texts k [] in
    let start : sum (length value ∷ take k (map length values)) ≡ length front + before =
    omega (
      arith,
      sum_by-cons (λ (n : ℕ). n) (length value) (take k (map length values)),
      length-filled (length value) text,
      fits 0,
    ) in
    ap (λ (n : ℕ). take (length found) (drop n (front ++ rest))) start
    ∙ ap (take (length found)) (drop-append-add front rest before)
    ∙ text_placed values texts k (omega (arith, count)) (λ j. fits (suc j))
