-- The keys that the weak key test refuses: those with a part of the listed class, whose halves C
-- and D repeat so that a few round keys recur (the list of the Rust crate `des` has the keys of the
-- class that have odd parity), and those with two parts that agree outside parity.
use Rattle.std.specs.Prelude.{◌<◌, ◌≤◌, ◌*◌, ◌⊎◌, ℕ, List, [], ◌∷◌, length, map}
use Rattle.std.specs.Int.{w64, to_be_bytes}
use Rattle.des.specs.Blocks.{IsKey, part}
use Rattle.des.specs.KeyHalves.{HasListedHalves}
use Rattle.des.specs.Parity.{AgreeOutsideParity, ContainsAgreeing}

-- the listed keys, as words, four a line
abbrev pub listed_words : List ℕ
listed_words =
    0x0101010101010101 ∷ 0xfefefefefefefefe ∷ 0xe0e0e0e0f1f1f1f1 ∷ 0x1f1f1f1f0e0e0e0e ∷
    0x011f011f010e010e ∷ 0x1f011f010e010e01 ∷ 0x01e001e001f101f1 ∷ 0xe001e001f101f101 ∷
    0x01fe01fe01fe01fe ∷ 0xfe01fe01fe01fe01 ∷ 0x1fe01fe00ef10ef1 ∷ 0xe01fe01ff10ef10e ∷
    0x1ffe1ffe0efe0efe ∷ 0xfe1ffe1ffe0efe0e ∷ 0xe0fee0fef1fef1fe ∷ 0xfee0fee0fef1fef1 ∷
    0x01011f1f01010e0e ∷ 0x1f1f01010e0e0101 ∷ 0xe0e01f1ff1f10e0e ∷ 0x0101e0e00101f1f1 ∷
    0x1f1fe0e00e0ef1f1 ∷ 0xe0e0fefef1f1fefe ∷ 0x0101fefe0101fefe ∷ 0x1f1ffefe0e0efefe ∷
    0xe0fe011ff1fe010e ∷ 0x011f1f01010e0e01 ∷ 0x1fe001fe0ef101fe ∷ 0xe0fe1f01f1fe0e01 ∷
    0x011fe0fe010ef1fe ∷ 0x1fe0e01f0ef1f10e ∷ 0xe0fefee0f1fefef1 ∷ 0x011ffee0010efef1 ∷
    0x1fe0fe010ef1fe01 ∷ 0xfe0101fefe0101fe ∷ 0x01e01ffe01f10efe ∷ 0x1ffe01e00efe01f1 ∷
    0xfe011fe0fe010ef1 ∷ 0xfe01e01ffe01f10e ∷ 0x1ffee0010efef101 ∷ 0xfe1f01e0fe0e01f1 ∷
    0x01e0e00101f1f101 ∷ 0x1ffefe1f0efefe0e ∷ 0xfe1fe001fe0ef101 ∷ 0x01e0fe1f01f1fe0e ∷
    0xe00101e0f10101f1 ∷ 0xfe1f1ffefe0e0efe ∷ 0x01fe1fe001fe0ef1 ∷ 0xe0011ffef1010efe ∷
    0xfee0011ffef1010e ∷ 0x01fee01f01fef10e ∷ 0xe001fe1ff101fe0e ∷ 0xfee01f01fef10e01 ∷
    0x01fefe0101fefe01 ∷ 0xe01f01fef10e01fe ∷ 0xfee0e0fefef1f1fe ∷ 0x1f01011f0e01010e ∷
    0xe01f1fe0f10e0ef1 ∷ 0xfefe0101fefe0101 ∷ 0x1f01e0fe0e01f1fe ∷ 0xe01ffe01f10efe01 ∷
    0xfefe1f1ffefe0e0e ∷ 0x1f01fee00e01fef1 ∷ 0xe0e00101f1f10101 ∷ 0xfefee0e0fefef1f1 ∷ []

-- the listed keys
abbrev pub listed_keys : List (List ℕ)
listed_keys = map (to_be_bytes w64) listed_words

-- the listed class: the keys of eight bytes whose halves, rotated left by two, are themselves or
-- their complements
abbrev pub IsListed : List ℕ → Type 0
IsListed key = IsKey 8 key × HasListedHalves key

-- n is the number of a part of the key, from 1
abbrev pub IsPartOf : List ℕ → ℕ → Type 0
IsPartOf key n = (1 ≤ n) × (8 * n ≤ length key)

-- some part of the key is such
abbrev HasPart : (List ℕ → Type 0) → List ℕ → Type 0
HasPart P key = (n : ℕ) × (IsPartOf key n × P (part n key))

-- two parts of the key agree outside parity
abbrev HasAgreeingParts : List ℕ → Type 0
HasAgreeingParts key =
    (m : ℕ) × ((n : ℕ)
    × (IsPartOf key m × IsPartOf key n × (m < n) × AgreeOutsideParity (part m key) (part n key)))

-- the key is refused: a part is of the listed class, or two parts agree outside parity
abbrev pub IsRefused : List ℕ → Type 0
IsRefused key = HasPart IsListed key ⊎ HasAgreeingParts key

-- the same by the list: a part agrees outside parity with one of the listed keys, or two parts do
abbrev pub IsRefusedByList : List ℕ → Type 0
IsRefusedByList key = HasPart (ContainsAgreeing listed_keys) key ⊎ HasAgreeingParts key
