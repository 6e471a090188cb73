-- Elements of DER (ITU-T X.690) whose contents have fewer than 2 ^ 16 octets.
use Rattle.std.specs.Prelude.{ℕ, ◌/◌, ◌%◌, ◌&&◌, List, [], ◌∷◌, ◌++◌, length, nat_lt, ◌==◌, if◌then◌else◌}
use Rattle.std.specs.Int.{w32, to_be_bytes}

-- a length in the fewest octets (8.1.3.4, 8.1.3.5 and 10.1)
abbrev pub length_octets : ℕ → List ℕ
length_octets n =
    if nat_lt n 128 then n ∷ []
    else if nat_lt n 256 then 0x81 ∷ n ∷ []
    else 0x82 ∷ n / 256 ∷ n % 256 ∷ []

-- a tag in one octet (8.1.2), the length of the contents, and the contents (8.1.1): 0x02 INTEGER, 0x04 OCTET STRING,
-- 0x06 OBJECT IDENTIFIER (8.19), 0x30 SEQUENCE (8.9)
abbrev pub element : ℕ → List ℕ → List ℕ
element tag contents = tag ∷ length_octets (length contents) ++ contents

-- without each octet 0 before one whose first bit is 0
unfoldable pub fewest : List ℕ → List ℕ
fewest [] = []
fewest (first ∷ []) = first ∷ []
fewest (first ∷ second ∷ rest) =
    if first == 0 && nat_lt second 128 then fewest (second ∷ rest) else first ∷ second ∷ rest

-- a number from 0 up and below 2 ^ 32: its digits to base 256, in the fewest octets of which the first bit is 0 (8.3)
abbrev pub integer_octets : ℕ → List ℕ
integer_octets n = fewest (0 ∷ to_be_bytes w32 n)

abbrev pub integer : ℕ → List ℕ
integer n = element 0x02 (integer_octets n)
