-- Padding of bytes to whole blocks, by its numbers.
use Rattle.std.specs.Prelude.{◌≡◌, ◌⊎◌, ℕ, ℤ, ◌+◌, ◌-◌, ◌%◌}
use Rattle.des_io.specs.declared.padding.Padding.{Padding}
use Rattle.des_io.specs.declared.padding.Padding.TheVariants.{Pkcs7, Iso7816, Zeros, Unpadded}
use Rattle.des_context.specs.declared.padding.TheConstants.{PKCS7, ISO7816}

-- the number is that of the padding
abbrev pub IsNumberOf : ℤ → Padding → Type 0
IsNumberOf method Pkcs7 = method ≡ PKCS7
IsNumberOf method Iso7816 = method ≡ ISO7816
IsNumberOf method Zeros = ⊥
IsNumberOf method Unpadded = ⊥

-- the number is that of a padding
abbrev pub IsMethod : ℤ → Type 0
IsMethod method = (method ≡ PKCS7) ⊎ (method ≡ ISO7816)

-- n bytes with their padding: the next whole blocks, at least one byte more
abbrev pub padded_length_of : ℕ → ℕ
padded_length_of n = n + (8 - n % 8)
