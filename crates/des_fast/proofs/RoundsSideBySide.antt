-- A round on words of groups, and the round keys of each direction.
use Rattle.std.proofs.Common.{◌≡◌, ℕ, List, Bool, true, false, length, bit_xor, ap, ◌∙◌}
use Rattle.std.proofs.lemmas.List.{length-reverse}
use Rattle.des.specs.Bits.{select, xor_bits}
use Rattle.des.specs.Tables.{expansion, permutation}
use Rattle.des.specs.CipherFunction.{substitute, cipher_function}
use Rattle.des_fast.specs.declared.halves.RoundKey.{RoundKey}
use Rattle.des_fast.specs.Groups.{IsOfGroups, IsExpansion, bits_of_groups, half_of}
use Rattle.des_fast.specs.HalfBlocks.{round_keys_of}
use Rattle.des_fast.specs.SideBySide.{in_direction}
use Rattle.des_fast.proofs.GroupWords.{IsOfGroups-xor, bits_of_groups-xor, half_of-xor}
use Rattle.des_fast.proofs.HalfExpansions.{IsExpansion-xor}
use Rattle.des_fast.proofs.RoundKeysByPlace.{length-round_keys_of}

-- the right half with the round key in it is a word of groups
pub IsOfGroups-mixed : (mixed right key : ℕ) → mixed ≡ bit_xor right key → IsExpansion right → IsOfGroups key
    → IsOfGroups mixed
IsOfGroups-mixed mixed right key is_mixed is_expansion of_groups =
    rw is_mixed (IsOfGroups-xor right key is_expansion.of_groups of_groups)

-- the half block that a round makes is an expansion
pub IsExpansion-next : (next left change : ℕ) → next ≡ bit_xor left change → IsExpansion left → IsExpansion change
    → IsExpansion next
IsExpansion-next next left change is_next left_is change_is = rw is_next (IsExpansion-xor left change left_is change_is)

-- and is the left half xor f of the right half and the round key
pub half_of-next : (next left right change mixed key : ℕ) → next ≡ bit_xor left change
    → mixed ≡ bit_xor right key → IsExpansion right
    → half_of change ≡ select permutation (substitute (bits_of_groups mixed))
    → half_of next ≡ xor_bits (half_of left) (cipher_function (half_of right) (bits_of_groups key))
unfolding cipher_function
half_of-next next left right change mixed key is_next is_mixed is_expansion is_change =
    let groups : bits_of_groups mixed ≡ xor_bits (select expansion (half_of right)) (bits_of_groups key) =
    ap bits_of_groups is_mixed
    ∙ bits_of_groups-xor right key
    ∙ ap (λ bits. xor_bits bits (bits_of_groups key)) is_expansion.expanded in
    ap half_of is_next
    ∙ half_of-xor left change
    ∙ ap (xor_bits (half_of left)) (is_change ∙ ap (λ bits. select permutation (substitute bits)) groups)

-- as many round keys in each direction
pub length-in_direction : (deciphers : Bool) (round_keys : List RoundKey)
    → length (in_direction deciphers (round_keys_of round_keys)) ≡ length round_keys
length-in_direction false round_keys = length-round_keys_of round_keys
length-in_direction true round_keys =
    length-reverse (round_keys_of round_keys) ∙ length-round_keys_of round_keys
