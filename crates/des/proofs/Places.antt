-- Lists of positions, and what they select from the first bits of a list.
use Rattle.std.proofs.Common.{◌≡◌, ℕ, ◌-◌, ◌==◌, ◌&&◌, nat_le, List, [], ◌∷◌, Bool, true, false, take, refl, ap₂, arith}
use Rattle.std.specs.List.{list_all, list_any}
use Rattle.std.proofs.lemmas.List.{get_or-take}
use Rattle.std.proofs.lemmas.Bool.Decides.{nat_tests}
use Rattle.des.specs.Bits.{select}
use Rattle.des.proofs.BitParts.{IsPositionIn}

-- whether a position stands in the list
abbrev pub is_among : List ℕ → ℕ → Bool
is_among positions position = list_any (λ other. other == position) positions

-- whether each is a position in n bits
abbrev are_positions_in : ℕ → List ℕ → Bool
are_positions_in n positions = list_all (λ position. nat_le 1 position && nat_le position n) positions

-- what the test of positions says of the first, and of the rest
position_parts : (n position : ℕ) (positions : List ℕ) → are_positions_in n (position ∷ positions) ≡ true
    → IsPositionIn n position × (are_positions_in n positions ≡ true)
position_parts n position positions inside = grind (arith, nat_tests)

-- positions in n bits select from the first n
pub select-take : (n : ℕ) (positions : List ℕ) (bits : List Bool) → are_positions_in n positions ≡ true
    → select positions (take n bits) ≡ select positions bits
unfolding select
select-take n [] bits inside = refl
select-take n (position ∷ positions) bits inside =
    let parts = position_parts n position positions inside in
    ap₂ ◌∷◌ (get_or-take n bits (position - 1) false (omega arith)) (select-take n positions bits parts.1)
