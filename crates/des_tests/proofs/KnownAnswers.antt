-- The definitions that private functions of `des_fast` stand for, computed at values from outside.
use Rattle.std.proofs.Common.{◌≡◌, ℕ, List, [], ◌∷◌, map, refl}
use Rattle.des.specs.Bits.{bits_of, number_of, select, xor_bits}
use Rattle.des.specs.Tables.{selection_functions}
use Rattle.des.specs.CipherFunction.{box_entry, substitute_by, cipher_function}
use Rattle.des_fast.specs.Groups.{bits_of_groups}

-- the entries of S1 to S8 for a group of six bits
entries : ℕ → List ℕ
unfolding box_entry bits_of number_of
entries group = map (λ box. box_entry box (bits_of 6 group)) selection_functions

-- the groups 011011, 100110 and 111101, which are columns 13, 3 and 14 of the second, third and fourth row, looked up
-- by hand in the tables of FIPS 46-3
entries-second_row : entries 0b011011 ≡ 5 ∷ 9 ∷ 11 ∷ 10 ∷ 9 ∷ 11 ∷ 15 ∷ 14 ∷ []
unfolding entries box_entry bits_of number_of
entries-second_row = refl

entries-third_row : entries 0b100110 ≡ 8 ∷ 11 ∷ 9 ∷ 0 ∷ 11 ∷ 5 ∷ 13 ∷ 1 ∷ []
unfolding entries box_entry bits_of number_of
entries-third_row = refl

entries-fourth_row : entries 0b111101 ≡ 6 ∷ 14 ∷ 2 ∷ 2 ∷ 5 ∷ 8 ∷ 3 ∷ 6 ∷ []
unfolding entries box_entry bits_of number_of
entries-fourth_row = refl

-- the first and the last round key of the worked example of J. Orlin Grabbe, The DES Algorithm Illustrated: the groups
-- 1, 3, 5, 7, then 2, 4, 6, 8
bits_of_groups-first : bits_of_groups 0x060b3f01302f0732 ≡ bits_of 48 0x1b02effc7072
unfolding bits_of select
bits_of_groups-first = refl

bits_of_groups-last : bits_of_groups 0x3236031f330b2135 ≡ bits_of 48 0xcb3d8b0e17f5
unfolding bits_of select
bits_of_groups-last = refl

-- its first round: the right half after it
first_round : xor_bits (bits_of 32 0xcc00ccff) (cipher_function (bits_of 32 0xf0aaf0aa) (bits_of 48 0x1b02effc7072))
    ≡ bits_of 32 0xef4a6544
unfolding bits_of select substitute_by box_entry number_of cipher_function xor_bits
first_round = refl
