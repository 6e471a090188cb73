-- Lists of bits that repeat their first bits, and tests at all lists of some bits.
use Rattle.std.proofs.Common.{◌≡◌, ℕ, zero, suc, ◌+◌, ◌*◌, ◌&&◌, List, [], ◌∷◌, ◌++◌, Bool, true, false, map, length, take, drop, get_or, refl, subst, sym, ap, ◌∙◌, arith, mul-suc, take-append-drop}
use Rattle.std.proofs.lemmas.List.{length-map, length-drop, length-take-le, drop-append-le, take-append-le, take_at, drop_at, map-append}
use Rattle.std.proofs.lemmas.Bool.{and_parts}
use Rattle.std.specs.List.{range_with_len}
use Rattle.std.proofs.lemmas.List.FromFn.{fill_by_all}
use Rattle.des.specs.KeySchedule.{rotate}

-- bits, and after them the same bits, and so on, n times in all, with a step taken at each bit from each time to
-- the next
abbrev pub repeated : (Bool → Bool) → ℕ → List Bool → List Bool
repeated step zero front = []
repeated step (suc count) front = front ++ repeated step count (map step front)

-- if the bits after the first n are the step at the bits from the first on, they go on from the first n
goes_on : (step : Bool → Bool) (n count : ℕ) (front rest last : List Bool) → length front ≡ n → length rest ≡ n * count
    → rest ++ last ≡ map step (front ++ rest) → rest ≡ repeated step count (map step front)
goes_on step n zero front [] last front_size rest_size same = refl
goes_on step n zero front (bit ∷ rest) last front_size rest_size same = absurd (omega arith)
goes_on step n (suc count) front rest last front_size rest_size same =
    let next : List Bool = map step front in
    let later : List Bool = drop n rest in
    let next_size : length next ≡ n = length-map front step ∙ front_size in
    let fits : length rest ≡ n * count + n = rest_size ∙ mul-suc n count in
    let split : rest ++ last ≡ next ++ map step rest = same ∙ map-append step front rest in
    let first : take n rest ≡ next =
    sym (take-append-le n rest last (omega arith)) ∙ ap (take n) split ∙ take_at next (map step rest) n next_size in
    let whole : rest ≡ next ++ later = sym (take-append-drop n rest) ∙ ap (λ bits. bits ++ later) first in
    let after : later ++ last ≡ map step (next ++ later) =
    sym (drop-append-le n rest last (omega arith)) ∙ ap (drop n) split ∙ drop_at next (map step rest) n next_size
    ∙ ap (map step) whole in
    whole
    ∙ ap (λ bits. next ++ bits)
    (goes_on step n count next later last next_size (omega (arith, length-drop n rest)) after)

-- if a rotation by n places is a step at each bit, the first n bits repeat with that step
pub repeated_from_rotate : (step : Bool → Bool) (n count : ℕ) (bits : List Bool) → length bits ≡ n * suc count
    → rotate bits n ≡ map step bits → bits ≡ repeated step (suc count) (take n bits)
unfolding rotate
repeated_from_rotate step n count bits size same =
    let fits : length bits ≡ n * count + n = size ∙ mul-suc n count in
    sym (take-append-drop n bits)
    ∙ ap (λ rest. take n bits ++ rest)
    (goes_on step n count (take n bits) (drop n bits) (take n bits) (length-take-le n bits (omega arith))
    (omega (arith, length-drop n bits))
    (same ∙ ap (map step) (sym (take-append-drop n bits))))

-- whether a test is true at each list of n bits
abbrev pub at_all_bits : ℕ → (List Bool → Bool) → Bool
at_all_bits zero test = test []
at_all_bits (suc n) test = at_all_bits n (λ bits. test (true ∷ bits)) && at_all_bits n (λ bits. test (false ∷ bits))

-- the test is true at a list of n bits then
pub at_bits : (n : ℕ) (test : List Bool → Bool) (bits : List Bool) → at_all_bits n test ≡ true → length bits ≡ n
    → test bits ≡ true
at_bits zero test [] each size = each
at_bits zero test (bit ∷ bits) each size = absurd (omega arith)
at_bits (suc n) test [] each size = absurd (omega arith)
at_bits (suc n) test (true ∷ bits) each size =
    at_bits n (λ rest. test (true ∷ rest)) bits (and_parts _ _ each).0 (omega arith)
at_bits (suc n) test (false ∷ bits) each size =
    at_bits n (λ rest. test (false ∷ rest)) bits (and_parts _ _ each).1 (omega arith)

-- what holds of n bits with any values holds of all lists of n bits
pub from_values : (n : ℕ) (P : List Bool → Type 0) → ((value : ℕ → Bool) → P (map value (range_with_len 0 n)))
    → (bits : List Bool) → length bits ≡ n → P bits
from_values n P each bits size =
    let value : ℕ → Bool = λ i. get_or bits i false in
    subst P (sym (fill_by_all value bits n false size (λ i below. refl))) (each value)
