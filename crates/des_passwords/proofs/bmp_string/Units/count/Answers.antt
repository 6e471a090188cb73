use Rattle.std.proofs.Common.{◌∷◌, [], length, length-append, ap, arith}
use Rattle.std.specs.Char.Escape.{encode_utf16}
use Rattle.std.specs.List.{flat_map}
use Rattle.std.specs.Str.{chars}
use Rattle.des_passwords.specs.BmpStrings.{characters_left}
use Rattle.des_passwords.specs.Pkcs12.{units_of}
use Rattle.des_passwords.specs.declared.bmp_string.Characters.{Characters}
use Rattle.des_passwords.proofs.bmp_string.Units.count.Goals as goal

-- the units, and the zero at the end
pub returns-in-Utf8-clause-count : goal.returns-in-Utf8-clause-count
unfolding characters_left
returns-in-Utf8-clause-count c =
    omega (
      arith,
      c.utf16_count.ensures.count,
      length-append (flat_map encode_utf16 (chars c.in-Utf8.text.now)) (0 ∷ []),
      ap (λ (all : Characters). length (units_of (characters_left all))) c.in-Utf8.is,
    )

pub returns-in-Bytes-clause-count : goal.returns-in-Bytes-clause-count
unfolding characters_left
returns-in-Bytes-clause-count c =
    omega (
      arith,
      c.byte_count.ensures.count,
      length-append (flat_map encode_utf16 c.in-Bytes.bytes.now) (0 ∷ []),
      ap (λ (all : Characters). length (units_of (characters_left all))) c.in-Bytes.is,
    )
