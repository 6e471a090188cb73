-- Blocks answered in place, batch after batch.
use Rattle.std.proofs.Common.{◌≡◌, ℕ, ◌+◌, ◌<◌, ◌≤◌, List, [], ◌++◌, length, take, drop, map, get_or, ap, ap₂, sym, ◌∙◌, arith, length-take-le, take-add}
use Rattle.std.proofs.lemmas.List.{length-map, get_or-map, ext_get_or, map-append, take_all, drop_all, append-nil}
use Rattle.des_fast.proofs.WrittenParts.{behind, written-more}

-- answers, one by one
pub answered-at : (f : List ℕ → List ℕ) (old new : List (List ℕ)) → length new ≡ length old
    → ((k : ℕ) → k < length old → get_or new k [] ≡ f (get_or old k [])) → new ≡ map f old
answered-at f old new count each =
    ext_get_or [] new (map f old) (count ∙ sym (length-map old f))
    (λ k below. each k (omega arith) ∙ sym (get_or-map f old k [] [] (omega arith)))

-- ---- lists

-- a list of which the first m are answered, and then the next n
pub answered-more : (f : List ℕ → List ℕ) (m n : ℕ) (old now part : List (List ℕ)) → m ≤ length old
    → now ≡ map f (take m old) ++ drop m old → part ≡ map f (take n (drop m now))
    → take m now ++ (part ++ drop n (drop m now)) ≡ map f (take (m + n) old) ++ drop (m + n) old
answered-more f m n old now part within so_far made =
    let front : List (List ℕ) = map f (take m old) in
    let size : length front ≡ m = length-map (take m old) f ∙ length-take-le m old within in
    let rest : take n (drop m now) ≡ take n (drop m old) = ap (take n) (behind m front old now size so_far) in
    written-more m front old now size so_far n part (map f (take (m + n) old))
    (ap (λ (xs : List (List ℕ)). front ++ xs) (made ∙ ap (map f) rest)
    ∙ sym (ap (map f) (take-add m n old) ∙ map-append f (take m old) (take n (drop m old))))

-- a list of which all are answered
pub answered-all : (f : List ℕ → List ℕ) (m : ℕ) (old : List (List ℕ)) → length old ≤ m
    → map f (take m old) ++ drop m old ≡ map f old
answered-all f m old all =
    ap₂ (λ (front back : List (List ℕ)). map f front ++ back) (take_all m old all) (drop_all m old all)
    ∙ append-nil (map f old)
