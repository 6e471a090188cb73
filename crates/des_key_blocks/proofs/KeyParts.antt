-- A key of two parts or three as one of three.
use Rattle.std.proofs.Common.{◌≡◌, ℕ, ◌+◌, ◌-◌, ◌≤◌, List, ◌++◌, length, take, refl, sym, ap, ap₂, ◌∙◌, arith}
use Rattle.std.proofs.lemmas.List.{length-append, take_at, take_all, drop_at}
use Rattle.des_key_blocks.specs.ProtectionKeys.{three_parts}
use Rattle.des_key_blocks.proofs.OptionalBlockLists.{take-both}

-- the key, and as much of its front as fits
pub three_parts-front : (key : List ℕ) → length key ≤ 24
    → three_parts key ≡ key ++ take (24 - length key) key
three_parts-front key few =
    let split : 24 ≡ length key + (24 - length key) = omega arith in
    ap (λ n. take n (key ++ key)) split ∙ take-both (length key) (24 - length key) (key ++ key)
    ∙ ap₂ (λ (front back : List ℕ). front ++ take (24 - length key) back) (take_at key key (length key) refl)
    (drop_at key key (length key) refl)

-- three parts, of which a key has all
pub three_parts-of_three : (first second third : List ℕ) → length first ≡ 8 → length second ≡ 8 → length third ≡ 8
    → first ++ second ++ third ≡ three_parts (take 24 (first ++ second ++ third))
three_parts-of_three first second third is_first is_second is_third =
    let whole : List ℕ = first ++ second ++ third in
    let count : length whole ≡ 24 = omega (arith, length-append (first ++ second) third, length-append first second) in
    sym (ap three_parts (take_all 24 whole (omega arith)) ∙ take_at whole whole 24 count)

-- two parts, of which the first is the third too
pub three_parts-of_two : (first second third : List ℕ) → length first ≡ 8 → length second ≡ 8
    → first ++ second ++ first ≡ three_parts (take 16 (first ++ second ++ third))
three_parts-of_two first second third is_first is_second =
    let both : List ℕ = first ++ second in
    let count : length both ≡ 16 = omega (arith, length-append first second) in
    let rest : 24 - length both ≡ 8 = omega arith in
    sym (ap three_parts (take_at both third 16 count) ∙ three_parts-front both (omega arith)
    ∙ ap (λ (back : List ℕ). both ++ back) (ap (λ n. take n both) rest ∙ take_at first second 8 is_first))
