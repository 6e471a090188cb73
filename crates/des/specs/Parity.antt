-- The parity bits of a key of eight bytes: bits 8, 16, .., 64, the last bit of each byte (FIPS
-- 46-3, key schedule).
use Rattle.std.specs.Prelude.{◌≡◌, ℕ, ◌%◌, ◌≤◌, List, count_ones}
use Rattle.std.specs.List.{All, Contains}
use Rattle.des.specs.Bits.{bit, bits_of_bytes}

-- in each byte the number of ones is odd
abbrev pub HasOddParity : List ℕ → Type 0
HasOddParity key = All (λ byte. count_ones byte % 2 ≡ 1) key

-- two keys of eight bytes agree outside parity: their bits are equal at each position that eight
-- does not divide
abbrev pub AgreeOutsideParity : List ℕ → List ℕ → Type 0
AgreeOutsideParity key other =
    (position : ℕ) → 1 ≤ position → position ≤ 64 → ¬ (position % 8 ≡ 0)
    → bit (bits_of_bytes key) position ≡ bit (bits_of_bytes other) position

-- a list of keys contains one that agrees with a key outside parity
abbrev pub ContainsAgreeing : List (List ℕ) → List ℕ → Type 0
ContainsAgreeing keys key = (other : List ℕ) × (Contains keys other × AgreeOutsideParity other key)
