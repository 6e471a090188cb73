-- A key of two parts is its parts, one after the other.
use Rattle.std.proofs.Common.{◌≡◌, ℕ, ◌<◌, ◌≤◌, ◌++◌, List, [], length, take, drop, get_or, ap, ap₂, sym, ◌∙◌, arith, length-take-le}
use Rattle.std.specs.Simd.Lanes.{zip2}
use Rattle.std.proofs.lemmas.List.{take_all, take-append-drop, length-drop, get_or-take, ext_get_or}
use Rattle.std.proofs.lemmas.Simd.{length-zip2, get_or-zip2}
use Rattle.des.specs.Blocks.{part}

pub joined_parts : (key : List ℕ) → length key ≡ 16 → part 1 key ++ part 2 key ≡ key
joined_parts key size =
    ap (λ (more : List ℕ). take 8 key ++ more) (take_all 8 (drop 8 key) (omega (arith, length-drop 8 key, size)))
    ∙ take-append-drop 8 key

-- so each key of a list is those at its place in two lists, which begin with them
pub joined_halves : (keys first second : List (List ℕ)) → length keys ≤ length first → length keys ≤ length second
    → ((k : ℕ) → k < length keys → length (get_or keys k []) ≡ 16)
    → ((k : ℕ) → k < length keys → get_or first k [] ≡ part 1 (get_or keys k []))
    → ((k : ℕ) → k < length keys → get_or second k [] ≡ part 2 (get_or keys k []))
    → zip2 (λ key more. key ++ more) (take (length keys) first) (take (length keys) second) ≡ keys
joined_halves keys first second in_first in_second sized one two =
    let n : ℕ = length keys in
    let join : List ℕ → List ℕ → List ℕ = λ key more. key ++ more in
    let of_first : length (take n first) ≡ n = length-take-le n first in_first in
    let of_second : length (take n second) ≡ n = length-take-le n second in_second in
    let count : length (zip2 join (take n first) (take n second)) ≡ n =
    length-zip2 join (take n first) (take n second) (of_first ∙ sym of_second) ∙ of_first in
    ext_get_or [] (zip2 join (take n first) (take n second)) keys count
    (λ k below.
    let inside : k < n = omega arith in
    get_or-zip2 join (take n first) (take n second) k [] [] [] (omega arith) (omega arith)
    ∙ ap₂ join (get_or-take n first k [] inside ∙ one k inside) (get_or-take n second k [] inside ∙ two k inside)
    ∙ joined_parts (get_or keys k []) (sized k inside))
