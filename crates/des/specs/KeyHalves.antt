-- Keys whose halves C and D repeat (FIPS 46-3, key schedule, defines C and D), so that round keys
-- recur.
use Rattle.std.specs.Prelude.{◌≡◌, ◌⊎◌, ℕ, List, Bool}
use Rattle.des.specs.Bits.{bits_of_bytes}
use Rattle.des.specs.Complement.{complement_bits}
use Rattle.des.specs.KeySchedule.{rotate, c_half, d_half}

-- both halves of a key are such
abbrev BothHalves : (List Bool → Type 0) → List ℕ → Type 0
BothHalves P key = P (c_half (bits_of_bytes key)) × P (d_half (bits_of_bytes key))

-- both halves, rotated left by n, are as they were
abbrev pub HalvesRepeat : ℕ → List ℕ → Type 0
HalvesRepeat n key = BothHalves (λ half. rotate half n ≡ half) key

-- a half, rotated left by two, is itself or its complement
abbrev pub IsListedHalf : List Bool → Type 0
IsListedHalf half = (rotate half 2 ≡ half) ⊎ (rotate half 2 ≡ complement_bits half)

-- both halves are such
abbrev pub HasListedHalves : List ℕ → Type 0
HasListedHalves key = BothHalves IsListedHalf key

-- a key and its partner: both halves of the key are unchanged by rotation by two, and those of the
-- partner are those of the key, rotated left by one
pub record ArePartners (key partner : List ℕ) : Type 0 where
  pub repeats : HalvesRepeat 2 key
  pub c_rotated : c_half (bits_of_bytes partner) ≡ rotate (c_half (bits_of_bytes key)) 1
  pub d_rotated : d_half (bits_of_bytes partner) ≡ rotate (d_half (bits_of_bytes key)) 1
