-- A list of what is made of another, written part after part.
use Rattle.std.proofs.Common.{◌≡◌, ℕ, ◌+◌, ◌≤◌, List, [], ◌∷◌, ◌++◌, length, map, take, drop, replicate, refl, ap, ap₂, sym, ◌∙◌, arith, append_assoc, length-take-le, take-add, take_at, drop_at}
use Rattle.std.specs.Simd.Lanes.{zip2}
use Rattle.std.proofs.lemmas.List.{drop-drop, take_all, drop_all, append-nil, map-append, length-map}

-- a list of which the first m are written, and then the next n
pub mapped-more : {A X : Type 0} (f : A → X) (m n : ℕ) (keys : List A) (old now part : List X) → length keys ≡ length old
    → m ≤ length old → now ≡ map f (take m keys) ++ drop m old → part ≡ map f (take n (drop m keys))
    → take m now ++ (part ++ drop n (drop m now)) ≡ map f (take (m + n) keys) ++ drop (m + n) old
mapped-more {A} {X} f m n keys old now part same within so_far made =
    let front : List X = map f (take m keys) in
    let size : length front ≡ m =
    length-map (take m keys) f ∙ length-take-le m keys (omega (arith, same, within)) in
    let first : take m now ≡ front = ap (take m) so_far ∙ take_at front (drop m old) m size in
    let rest : drop m now ≡ drop m old = ap (drop m) so_far ∙ drop_at front (drop m old) m size in
    let last : drop n (drop m now) ≡ drop (m + n) old = ap (drop n) rest ∙ drop-drop n m old in
    ap₂ ◌++◌ first (ap₂ ◌++◌ made last)
    ∙ sym (append_assoc front (map f (take n (drop m keys))) (drop (m + n) old))
    ∙ ap (λ (xs : List X). xs ++ drop (m + n) old)
    (sym (ap (map f) (take-add m n keys) ∙ map-append f (take m keys) (take n (drop m keys))))

-- a list of which all are written
pub mapped-all : {A X : Type 0} (f : A → X) (m : ℕ) (keys : List A) (old : List X) → length keys ≡ length old
    → length old ≤ m → map f (take m keys) ++ drop m old ≡ map f keys
mapped-all {A} {X} f m keys old same all =
    ap (λ (back : List X). map f (take m keys) ++ back) (drop_all m old all)
    ∙ append-nil (map f (take m keys))
    ∙ ap (map f) (take_all m keys (omega (arith, same, all)))

-- one block under each key
pub zipped-replicate : {A : Type 0} (bytes : A → List ℕ) (f : List ℕ → List ℕ → List ℕ) (keys : List A) (block : List ℕ)
    → map (take 3) (zip2 f (map bytes keys) (replicate (length keys) block))
    ≡ map (λ key. take 3 (f (bytes key) block)) keys
zipped-replicate bytes f [] block = refl
zipped-replicate {A} bytes f (key ∷ keys) block =
    ap (λ (rest : List (List ℕ)). take 3 (f (bytes key) block) ∷ rest) (zipped-replicate bytes f keys block)
