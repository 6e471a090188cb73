-- What is left of a password as a BMPString, as it is read unit by unit.
use Rattle.std.specs.Prelude.{ℕ, List, [], ◌∷◌, ◌++◌, Option, Some, None}
use Rattle.std.specs.Str.{chars}
use Rattle.des_passwords.specs.Pkcs12.{units_of}
use Rattle.des_passwords.specs.declared.bmp_string.Characters.{Characters}
use Rattle.des_passwords.specs.declared.bmp_string.Characters.TheVariants.{Utf8, Bytes}
use Rattle.des_passwords.specs.declared.bmp_string.Units.{Units}

unfoldable pub characters_left : Characters → List ℕ
characters_left (Utf8 text) = chars text.now
characters_left (Bytes bytes) = bytes.now

-- the second unit of a character
abbrev pub second_of : Option ℕ → List ℕ
second_of None = []
second_of (Some unit) = unit ∷ []

-- the units of a copy
abbrev pub all_units : Units → List ℕ
all_units units = units_of (characters_left units.all)

-- those that are left of it
abbrev pub units_left : Units → List ℕ
units_left units = second_of units.second ++ units_of (characters_left units.rest)
