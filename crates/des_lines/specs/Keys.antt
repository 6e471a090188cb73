-- Keys in digits, and keys of two parts in the form of three.
use Rattle.std.specs.Prelude.{◌≡◌, ◌⊎◌, ℕ, ◌*◌, ◌==◌, ◌||◌, Bool, not, if◌then◌else◌, List, length, take, Option, Some, None}
use Rattle.des.specs.Blocks.{part}
use Rattle.des.specs.Parity.{AgreeOutsideParity}
use Rattle.des.specs.WeakKeys.{IsRefused}
use Rattle.des_lines.specs.declared.fault.FaultKind.{FaultKind}
use Rattle.des_lines.specs.declared.fault.FaultKind.TheVariants.{KeyLength, KeyText}
use Rattle.des_lines.specs.declared.keys.Verdict.{Verdict}
use Rattle.des_lines.specs.declared.keys.Verdict.TheVariants.{Good, DoubleLength, Weak}
use Rattle.des_lines.specs.Texts.{text_fault, digits_fault}

-- the sizes of keys
abbrev pub IsKeySize : ℕ → Type 0
IsKeySize size = (size ≡ 8) ⊎ ((size ≡ 16) ⊎ (size ≡ 24))

-- this number of digits writes a key of a size, or of one of the three
abbrev pub is_key_length : ℕ → Option ℕ → Bool
is_key_length count None = (count == 16) || ((count == 32) || (count == 48))
is_key_length count (Some size) = count == 2 * size

-- the fault of the digits of a key of 8, 16 or 24 bytes, by the fault of its length and that of its text
abbrev pub any_key_fault : FaultKind → FaultKind → List ℕ → Option FaultKind
any_key_fault length_fault fault digits =
    if not (is_key_length (length digits) None) then Some length_fault
    else text_fault fault digits

-- the fault of the digits of a key, if they have one
abbrev pub key_fault : Option ℕ → List ℕ → Option FaultKind
key_fault size digits =
    if not (is_key_length (length digits) size) then Some (KeyLength size)
    else text_fault KeyText digits

-- the fault of the digits of a key of two parts
abbrev pub pair_fault : List ℕ → Option FaultKind
pair_fault digits = digits_fault 16 (KeyLength (Some 16)) KeyText digits

-- the third part of a key is the first, parity aside, and the key of the first two is not refused
abbrev pub IsDoubleLength : List ℕ → Type 0
IsDoubleLength key =
    (length key ≡ 24) × AgreeOutsideParity (part 1 key) (part 3 key) × (¬ IsRefused (take 16 key))

-- what is found of a key: exactly one of the three
abbrev pub IsVerdict : Verdict → List ℕ → Type 0
IsVerdict Good key = ¬ IsRefused key
IsVerdict DoubleLength key = IsDoubleLength key
IsVerdict Weak key = IsRefused key × (¬ IsDoubleLength key)
