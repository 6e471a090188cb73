-- The values of a column: each, those before one, those from one on.
use Rattle.std.proofs.Common.{◌≡◌, ℕ, zero, suc, ◌+◌, ◌-◌, ◌/◌, ◌≤◌, ◌<◌, min, List, [], ◌∷◌, ◌++◌, length, take, drop, get_or, sum, refl, ap, ap₂, sym, ◌∙◌, arith}
use Rattle.std.specs.List.{flat_map, sum_by}
use Rattle.std.specs.Simd.{first_chunks}
use Rattle.std.proofs.lemmas.List.{drop_more, drop_min, flat_map_more, length-drop, take_min, take_more, take_rest, drop-drop}
use Rattle.std.proofs.lemmas.List.Sums.{sum_by-cons, sum_by-take-drop}
use Rattle.des_columns.specs.Columns.{pieces}
use Rattle.des_columns.specs.Forms.{blocks_of, part_of}
use Rattle.des_columns.specs.declared.form.ValueForm.{ValueForm}

pub length-pieces : (lengths bytes : List ℕ) → length (pieces lengths bytes) ≡ length lengths
length-pieces [] bytes = refl
length-pieces (size ∷ lengths) bytes = ap suc (length-pieces lengths (drop size bytes))

pub pieces-at : (lengths bytes : List ℕ) (k : ℕ) → k < length lengths
    → get_or (pieces lengths bytes) k [] ≡ take (get_or lengths k 0) (drop (sum (take k lengths)) bytes)
pieces-at [] bytes k below = absurd (omega arith)
pieces-at (size ∷ lengths) bytes zero below = refl
pieces-at (size ∷ lengths) bytes (suc k) below =
    pieces-at lengths (drop size bytes) k (omega (arith, below))
    ∙ ap (take (get_or lengths k 0)) (drop-drop (sum (take k lengths)) size bytes)
    ∙ ap (λ n. take (get_or lengths k 0) (drop n bytes)) (sym (sum_by-cons (λ n. n) size (take k lengths)))

pub drop-pieces : (lengths bytes : List ℕ) (k : ℕ) → k ≤ length lengths
    → drop k (pieces lengths bytes) ≡ pieces (drop k lengths) (drop (sum (take k lengths)) bytes)
drop-pieces lengths bytes zero below = refl
drop-pieces [] bytes (suc k) below = refl
drop-pieces (size ∷ lengths) bytes (suc k) below =
    drop-pieces lengths (drop size bytes) k (omega (arith, below))
    ∙ ap (pieces (drop k lengths)) (drop-drop (sum (take k lengths)) size bytes)
    ∙ ap (λ n. pieces (drop k lengths) (drop n bytes)) (sym (sum_by-cons (λ n. n) size (take k lengths)))

pub take-pieces : (lengths bytes : List ℕ) (k : ℕ) → pieces (take k lengths) bytes ≡ take k (pieces lengths bytes)
take-pieces lengths bytes zero = refl
take-pieces [] bytes (suc k) = refl
take-pieces (size ∷ lengths) bytes (suc k) = ap (λ l. take size bytes ∷ l) (take-pieces lengths (drop size bytes) k)

-- what a function makes of values up to one more
pub flat_map-more : {X : Type 0} (f : List ℕ → List X) (values : List (List ℕ)) (k : ℕ) → k < length values
    → flat_map f (take (k + 1) values) ≡ flat_map f (take k values) ++ f (get_or values k [])
flat_map-more f values k below =
    ap (flat_map f) (take_more values k [] below) ∙ sym (flat_map_more f [] (take k values) (get_or values k []))

-- the bytes at a value's place are the value
pub value-at : (lengths bytes : List ℕ) (k start size : ℕ) → k < length lengths → start ≡ sum (take k lengths)
    → size ≡ get_or lengths k 0 → take size (drop start bytes) ≡ get_or (pieces lengths bytes) k []
value-at lengths bytes k start size below at is =
    ap₂ (λ n m. take n (drop m bytes)) is at ∙ sym (pieces-at lengths bytes k below)

-- the values from one on, of what is left of the lengths and of the bytes; and the first of them
pub pieces-left : (lengths bytes : List ℕ) (k start : ℕ) → k ≤ length lengths → start ≡ sum (take k lengths)
    → pieces (take (length lengths - k) (drop k lengths)) (take (length bytes - start) (drop start bytes))
    ≡ drop k (pieces lengths bytes)
pieces-left lengths bytes k start within at =
    ap₂ pieces (take_rest lengths k) (take_rest bytes start)
    ∙ ap (λ n. pieces (drop k lengths) (drop n bytes)) at ∙ sym (drop-pieces lengths bytes k within)

pub next-left : (lengths bytes : List ℕ) (k start size : ℕ) → k < length lengths → start ≡ sum (take k lengths)
    → size ≡ get_or lengths k 0
    → pieces (take (length lengths - k) (drop k lengths)) (take (length bytes - start) (drop start bytes))
    ≡ take size (drop start bytes) ∷ drop (k + 1) (pieces lengths bytes)
next-left lengths bytes k start size below at is =
    pieces-left lengths bytes k start (omega (arith, below)) at
    ∙ drop_more (pieces lengths bytes) k [] (omega (arith, length-pieces lengths bytes, below))
    ∙ ap (λ value. value ∷ drop (k + 1) (pieces lengths bytes)) (sym (value-at lengths bytes k start size below at is))

-- what is left of the lengths adds up to what is left of the bytes
pub sum-left : (f : ℕ → ℕ) (lengths bytes : List ℕ) (k start : ℕ) → sum_by f lengths ≡ length bytes
    → start ≡ sum_by f (take k lengths)
    → sum_by f (take (length lengths - k) (drop k lengths)) ≡ length (take (length bytes - start) (drop start bytes))
sum-left f lengths bytes k start whole at =
    ap (sum_by f) (take_rest lengths k)
    ∙ omega (arith, sum_by-take-drop f lengths k, whole, at, length-drop start bytes)
    ∙ sym (ap length (take_rest bytes start))

pub length-first_chunks : {X : Type 0} (n k : ℕ) (xs : List X) → length (first_chunks n k xs) ≡ k
length-first_chunks n zero xs = refl
length-first_chunks n (suc k) xs = ap suc (length-first_chunks n k (drop n xs))

-- the blocks of a value are as many as its part has
pub length-blocks : (form : ValueForm) (value same part : List ℕ) → value ≡ same → part ≡ part_of form value
    → length part / 8 ≡ length (blocks_of form same)
length-blocks form value same part is of =
    ap (λ (l : List ℕ). length l / 8) (of ∙ ap (part_of form) is) ∙ sym (length-first_chunks 8 _ (part_of form same))

-- the first of the values from one on, and those behind it
pub pieces-next : (lengths bytes rest : List ℕ) (k mid : ℕ) → k < length lengths → mid ≡ min (get_or lengths k 0) (length rest)
    → pieces (drop k lengths) rest ≡ drop k (pieces lengths bytes)
    → (take mid rest ≡ get_or (pieces lengths bytes) k [])
    × (pieces (drop (k + 1) lengths) (drop mid rest) ≡ drop (k + 1) (pieces lengths bytes))
pieces-next lengths bytes rest k mid below least are =
    let vs : List (List ℕ) = pieces lengths bytes in
    let size : ℕ = get_or lengths k 0 in
    let inside : k < length vs = omega (arith, length-pieces lengths bytes, below) in
    let both : take size rest ∷ pieces (drop (k + 1) lengths) (drop size rest) ≡ get_or vs k [] ∷ drop (k + 1) vs =
    sym (ap (λ l. pieces l rest) (drop_more lengths k 0 below)) ∙ are ∙ drop_more vs k [] inside in (
      ap (λ n. take n rest) least ∙ take_min size rest ∙ ap (λ (l : List (List ℕ)). get_or l 0 []) both,
      ap (λ n. pieces (drop (k + 1) lengths) (drop n rest)) least
          ∙ ap (pieces (drop (k + 1) lengths)) (drop_min size rest) ∙ ap (λ (l : List (List ℕ)). drop 1 l) both,
    )
