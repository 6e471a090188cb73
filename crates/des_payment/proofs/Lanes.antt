-- Lists of which the first elements are made of those of another.
use Rattle.std.proofs.Common.{◌≡◌, ℕ, ◌<◌, ◌≤◌, List, [], ◌∷◌, ◌++◌, length, map, take, get_or, refl, ap, ap₂, sym, ◌∙◌, arith, length-take-le}
use Rattle.std.specs.Simd.Lanes.{zip2}
use Rattle.std.proofs.lemmas.Simd.{length-zip2, get_or-zip2}
use Rattle.std.proofs.lemmas.List.{map-id, get_or-map, length-map, get_or_append_left, get_or-take}

-- blocks under keys of which a list has the first n
pub zipped-front : (f : List ℕ → List ℕ → List ℕ) (n : ℕ) (keys old new rest : List (List ℕ)) → n ≤ length keys
    → n ≤ length old → new ≡ zip2 f (map (λ key. key) (take n keys)) (take n old)
    → (k : ℕ) → k < n → get_or (new ++ rest) k [] ≡ f (get_or keys k []) (get_or old k [])
zipped-front f n keys old new rest in_keys in_old made k below =
    let of_keys : length (take n keys) ≡ n = length-take-le n keys in_keys in
    let of_old : length (take n old) ≡ n = length-take-le n old in_old in
    let is : new ≡ zip2 f (take n keys) (take n old) =
    made ∙ ap (λ (ks : List (List ℕ)). zip2 f ks (take n old)) (map-id (take n keys)) in
    let size : length new ≡ n = ap length is ∙ length-zip2 f (take n keys) (take n old) (of_keys ∙ sym of_old) ∙ of_keys in
    get_or_append_left new rest [] k (omega arith)
    ∙ ap (λ (xs : List (List ℕ)). get_or xs k []) is
    ∙ get_or-zip2 f (take n keys) (take n old) k [] [] [] (omega arith) (omega arith)
    ∙ ap₂ f (get_or-take n keys k [] below) (get_or-take n old k [] below)

-- results of which a list has the first n
pub mapped-front : (f : List ℕ → List ℕ) (n : ℕ) (old new rest : List (List ℕ)) → n ≤ length old
    → new ≡ map f (take n old) → (k : ℕ) → k < n → get_or (new ++ rest) k [] ≡ f (get_or old k [])
mapped-front f n old new rest inside made k below =
    let size : length (take n old) ≡ n = length-take-le n old inside in
    let long : length new ≡ n = ap length made ∙ length-map (take n old) f ∙ size in
    get_or_append_left new rest [] k (omega arith)
    ∙ ap (λ (xs : List (List ℕ)). get_or xs k []) made
    ∙ get_or-map f (take n old) k [] [] (omega arith)
    ∙ ap f (get_or-take n old k [] below)

-- results of elements and of what was made of them
pub zipped-mapped : (f : List ℕ → List ℕ → List ℕ) (h : List ℕ → List ℕ) (xs : List (List ℕ))
    → zip2 f xs (map h xs) ≡ map (λ x. f x (h x)) xs
zipped-mapped f h [] = refl
zipped-mapped f h (x ∷ xs) = ap (λ (rest : List (List ℕ)). f x (h x) ∷ rest) (zipped-mapped f h xs)
