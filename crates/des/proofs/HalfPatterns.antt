-- The halves of the listed class: their bits repeat two by two, as they are or each the other one, so that their first
-- two bits and this choice give all of them: a test of the eight patterns tells of all such halves.
use Rattle.std.proofs.Common.{◌≡◌, suc, refl, ap, ap₂, List, [], ◌∷◌, Bool, true, false, length, take, inl, inr, sym, ◌∙◌, arith}
use Rattle.std.specs.Cmp.{booleans_Decides}
use Rattle.std.specs.Cmp.Lexicographic.{pointwise}
use Rattle.std.proofs.Math.Bool.{beq}
use Rattle.std.proofs.lemmas.Slice.Eq.{slice_eq-Decides}
use Rattle.std.proofs.lemmas.List.{map-id, length-take-le}
use Rattle.des.specs.Bits.{xor}
use Rattle.des.specs.KeyHalves.{IsListedHalf}
use Rattle.des.proofs.Repeating.{repeated, repeated_from_rotate, at_all_bits, at_bits}

-- the half of 28 bits that a sign and two bits give, each next two being the two before them, each the other one if the
-- sign says so
abbrev pub half_pattern : List Bool → List Bool
half_pattern [] = []
half_pattern (sign ∷ front) = repeated (xor sign) 14 front

-- a half of the listed class is the pattern of some sign and its first two bits
pub half_pattern-listed : (half : List Bool) → length half ≡ 28 → IsListedHalf half
    → (choice : List Bool) × ((length choice ≡ 3) × (half ≡ half_pattern choice))
half_pattern-listed half size listed =
    let two : length (take 2 half) ≡ 2 = length-take-le 2 half (omega arith) in
    elim listed [
      | inl same ↦
          (false ∷ take 2 half, (ap suc two, repeated_from_rotate (xor false) 2 13 half size (same ∙ sym (map-id half))))
      | inr other ↦ (true ∷ take 2 half, (ap suc two, repeated_from_rotate (xor true) 2 13 half size other))
    ]

-- whether a test is true of each two patterns
abbrev pub at_all_patterns : (List Bool → List Bool → Bool) → Bool
at_all_patterns test = at_all_bits 3 (λ c. at_all_bits 3 (λ d. test (half_pattern c) (half_pattern d)))

-- it is true of each two halves of the listed class then
pub at_listed_halves : (test : List Bool → List Bool → Bool) → at_all_patterns test ≡ true → (c d : List Bool)
    → length c ≡ 28 → length d ≡ 28 → IsListedHalf c → IsListedHalf d → test c d ≡ true
at_listed_halves test each c d c_size d_size c_listed d_listed =
    let c_known = half_pattern-listed c c_size c_listed in
    let d_known = half_pattern-listed d d_size d_listed in
    let at_c =
    at_bits 3 (λ c. at_all_bits 3 (λ d. test (half_pattern c) (half_pattern d))) c_known.0 each c_known.1.0 in
    ap₂ test c_known.1.1 d_known.1.1
    ∙ at_bits 3 (λ d. test (half_pattern c_known.0) (half_pattern d)) d_known.0 at_c d_known.1.0

-- lists of bits are equal if the test of them says so
pub same_bits : (bits others : List Bool) → pointwise beq bits others ≡ true → bits ≡ others
same_bits bits others = (slice_eq-Decides booleans_Decides bits others _ refl).0
