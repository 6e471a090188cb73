-- What is written as prefixes of texts, one after another, is a prefix of the texts together.
use Rattle.std.proofs.Common.{◌≡◌, ℕ, ◌+◌, min, List, ◌++◌, length, take, Option, sym, ◌∙◌, subst, arith}
use Rattle.std.proofs.Math.Seq.{take-append-add}
use Rattle.std.proofs.lemmas.List.{take_min, take-append-le}
use Rattle.std.specs.Io.KnownBytes.{Appends}
use Rattle.std.proofs.KnownBytes.{Appends-trans}
use Rattle.des_tool.specs.Status.{AppendsPrefix}

-- a prefix of the first text
pub AppendsPrefix-first : (a b : Option (List ℕ)) (first second : List ℕ) → AppendsPrefix a b first
    → AppendsPrefix a b (first ++ second)
AppendsPrefix-first a b first second part =
    let n : ℕ = min part.0 (length first) in
    let same : take part.0 first ≡ take n (first ++ second) =
    sym (take_min part.0 first) ∙ sym (take-append-le n first second (omega arith)) in
    (n, subst (Appends a b) same part.1)

-- the first text, and a prefix of the second
pub AppendsPrefix-second : (a b c : Option (List ℕ)) (first second : List ℕ) → Appends a b first
    → AppendsPrefix b c second → AppendsPrefix a c (first ++ second)
AppendsPrefix-second a b c first second whole part =
    let same : first ++ take part.0 second ≡ take (length first + part.0) (first ++ second) =
    sym (take-append-add first second part.0) in
    (length first + part.0, subst (Appends a c) same (Appends-trans a b c _ _ whole part.1))
