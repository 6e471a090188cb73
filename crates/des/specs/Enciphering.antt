-- What DES is, as a relation between a key, a block and a block (FIPS 46-3, enciphering). It has no
-- direction: deciphering is the same relation, read from the second block to the first (FIPS 46-3,
-- deciphering).
use Rattle.std.specs.Prelude.{◌≡◌, ℕ, ◌+◌, ◌-◌, ◌≤◌, List, [], ◌++◌, Bool, length, slice_index_or}
use Rattle.des.specs.Bits.{bits_of_bytes, select, xor_bits}
use Rattle.des.specs.Tables.{initial_permutation}
use Rattle.des.specs.CipherFunction.{cipher_function}
use Rattle.des.specs.KeySchedule.{round_key}
use Rattle.des.specs.Blocks.{IsKey, IsBlock}

-- half block i of a list of them, from 0
abbrev pub half_block : List (List Bool) → ℕ → List Bool
half_block halves i = slice_index_or halves i []

-- a trace of a key: eighteen half blocks, h(0) to h(17), each from h(2) on made of the two before
-- it. The standard's L(n) is h(n), and its R(n) is h(n + 1)
pub record IsTrace (key : List Bool) (h : List (List Bool)) : Type 0 where
  pub count : length h ≡ 18
  pub widths : (i : ℕ) → i ≤ 17 → length (half_block h i) ≡ 32
  pub rounds : (i : ℕ) → 1 ≤ i → i ≤ 16
      → half_block h (i + 1)
      ≡ xor_bits (half_block h (i - 1)) (cipher_function (half_block h i) (round_key key i))

-- DES under a key takes block x to block y: a trace of the key begins with the two halves of x
-- after the initial permutation, and ends with those of y, in the opposite order
pub record IsDes (key x y : List Bool) : Type 0 where
  pub key_width : length key ≡ 64
  pub first_width : length x ≡ 64
  pub last_width : length y ≡ 64
  pub trace : List (List Bool)
  pub is_trace : IsTrace key trace
  pub begins : select initial_permutation x ≡ half_block trace 0 ++ half_block trace 1
  pub ends : select initial_permutation y ≡ half_block trace 17 ++ half_block trace 16

-- the same of a key and blocks as bytes: DES under the key takes block x to block y
pub record Enciphers (key x y : List ℕ) : Type 0 where
  pub is_key : IsKey 8 key
  pub first_is_block : IsBlock x
  pub last_is_block : IsBlock y
  pub is_des : IsDes (bits_of_bytes key) (bits_of_bytes x) (bits_of_bytes y)
