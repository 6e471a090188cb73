-- The triple DES key wrap of CMS (RFC 3217, 3), of a key of any number of blocks of eight bytes: a key of triple DES has
-- three. A relation of blocks, such as that of the key that protects, takes each block to its encryption.
use Rattle.std.specs.Prelude.{ℕ, List, [], ◌∷◌, ◌++◌, map, take, reverse}
use Rattle.std.specs.List.{All, flat_map}
use Rattle.des.specs.Blocks.{IsBlock}
use Rattle.des.specs.Cbc.{CbcUnder}
use Rattle.sha1.specs.Sha1.{sha1}

-- the key checksum, ICV (section 2)
abbrev pub checksum : List (List ℕ) → List ℕ
checksum key = take 8 (sha1 (flat_map (λ block. block) key))

-- the initialization vector of the second encryption
abbrev pub second_iv : List ℕ
second_iv = 0x4a ∷ 0xdd ∷ 0xa2 ∷ 0x2c ∷ 0x79 ∷ 0xe8 ∷ 0x21 ∷ 0x05 ∷ []

-- all bytes in reverse order: the last block first, each from its last byte on
abbrev pub reversed : List (List ℕ) → List (List ℕ)
reversed blocks = map reverse (reverse blocks)

-- CBC from IV makes TEMP1 of the blocks; IV | TEMP1, all bytes reversed (TEMP3), is encrypted by CBC from the second vector
pub record Encloses (Encrypts : List ℕ → List ℕ → Type 0) (iv : List ℕ) (p enclosed : List (List ℕ)) : Type 0 where
  pub temp1 : List (List ℕ)
  pub are_blocks : All IsBlock p × All IsBlock temp1
  pub first : CbcUnder Encrypts iv p temp1
  pub second : CbcUnder Encrypts second_iv (reversed (iv ∷ temp1)) enclosed

-- the key and its checksum are enclosed
abbrev pub Wraps : (List ℕ → List ℕ → Type 0) → List ℕ → List (List ℕ) → List (List ℕ) → Type 0
Wraps Encrypts iv key wrapped = Encloses Encrypts iv (key ++ checksum key ∷ []) wrapped
