-- What is written as prefixes of texts, one after another, is a prefix of the texts together.
use Rattle.std.proofs.Common.{◌≡◌, ℕ, ◌+◌, ◌<◌, ◌≤◌, min, List, ◌++◌, length, take, drop, get_or, Option, refl, sym, ap, ◌∙◌, subst, arith}
use Rattle.std.specs.Prelude.{Result, Ok, Err, IsOk, OnOk}
use Rattle.std.proofs.Math.Seq.{take-append-add}
use Rattle.std.proofs.lemmas.List.{take_min, take_all, take-append-le, take-append-drop, drop_more}
use Rattle.std.proofs.lemmas.Grind.{flat_map-append}
use Rattle.std.specs.List.{flat_map}
use Rattle.std.specs.Io.KnownBytes.{Appends, Keeps}
use Rattle.std.proofs.KnownBytes.{Appends-trans, Appends-kept}
use Rattle.des_lines.specs.Written.{AppendsPrefix}

-- a prefix of the first text
pub AppendsPrefix-first : (a b : Option (List ℕ)) (first second : List ℕ) → AppendsPrefix a b first
    → AppendsPrefix a b (first ++ second)
AppendsPrefix-first a b first second part =
    let n : ℕ = min part.0 (length first) in
    let same : take part.0 first ≡ take n (first ++ second) =
    sym (take_min part.0 first) ∙ sym (take-append-le n first second (omega arith)) in
    (n, subst (Appends a b) same part.1)

-- the first text, and a prefix of the second
pub AppendsPrefix-second : (a b c : Option (List ℕ)) (first second : List ℕ) → Appends a b first
    → AppendsPrefix b c second → AppendsPrefix a c (first ++ second)
AppendsPrefix-second a b c first second whole part =
    let same : first ++ take part.0 second ≡ take (length first + part.0) (first ++ second) =
    sym (take-append-add first second part.0) in
    (length first + part.0, subst (Appends a c) same (Appends-trans a b c _ _ whole part.1))

-- the whole text
pub AppendsPrefix-all : (a b : Option (List ℕ)) (text : List ℕ) → Appends a b text → AppendsPrefix a b text
AppendsPrefix-all a b text whole =
    (length text, subst (Appends a b) (sym (take_all (length text) text (omega arith))) whole)

-- and then no more
pub AppendsPrefix-kept : (a b c : Option (List ℕ)) (text : List ℕ) → AppendsPrefix a b text → Keeps b c
    → AppendsPrefix a c text
AppendsPrefix-kept a b c text part kept = (part.0, Appends-kept a b c _ part.1 kept)

-- ---- texts one after another

-- the texts are those before an index, the one there, and those after it
pub flat_map-at : {X : Type 0} (f : X → List ℕ) (xs : List X) (i : ℕ) (d : X) → i < length xs
    → flat_map f xs ≡ flat_map f (take i xs) ++ (f (get_or xs i d) ++ flat_map f (drop (i + 1) xs))
flat_map-at f xs i d within =
    sym (ap (flat_map f) (take-append-drop i xs)) ∙ flat_map-append f (take i xs) (drop i xs)
    ∙ ap (λ rest. flat_map f (take i xs) ++ flat_map f rest) (drop_more xs i d within)

-- ---- what `write_whole` of `des_io` says, in the words of this crate

-- a part of the text is written
pub AppendsPrefix-written : (a b : Option (List ℕ)) (text : List ℕ) (Whole : Type 0)
    → (k : ℕ) × (k ≤ length text) × Appends a b (take k text) × (Whole → k ≡ length text) → AppendsPrefix a b text
AppendsPrefix-written a b text Whole (k, within, put, all) = (k, put)

-- all of it, without an error
pub OnOk-written : {T E : Type 0} (result : Result T E) (a b : Option (List ℕ)) (text : List ℕ)
    → (k : ℕ) × (k ≤ length text) × Appends a b (take k text) × (IsOk result → k ≡ length text)
    → OnOk result (Appends a b text)
OnOk-written (Ok value) a b text (k, within, put, all) =
    subst (Appends a b) (take_all k text (omega (arith, all refl))) put
OnOk-written (Err error) a b text written = tt
