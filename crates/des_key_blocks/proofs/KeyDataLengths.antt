-- Key data are whole blocks, 32 bytes at most, and the digits of what is sealed are as many as a block has.
use Rattle.std.proofs.Common.{◌≡◌, ℕ, zero, suc, ◌+◌, ◌-◌, ◌*◌, ◌%◌, ◌≤◌, List, ◌++◌, length, Bool, true, false, refl, sym, ap, ◌∙◌, subst, arith}
use Rattle.std.specs.Prelude.{IsTrue, ◌==◌, ◌&&◌, ◌||◌, nat_le}
use Rattle.std.specs.Int.{w16, to_be_bytes}
use Rattle.std.proofs.lemmas.Bool.Decides.{nat_tests}
use Rattle.std.proofs.lemmas.List.{length-append}
use Rattle.des_key_blocks.specs.Hex.{hex_of}
use Rattle.des_key_blocks.specs.KeyBlocks.{joined, key_data, is_key_data, mac_size, IsSealed, is_key}
use Rattle.des_key_blocks.specs.KeyBlockReading.{is_sealed_length}
use Rattle.des_key_blocks.specs.declared.key_block_header.Version.{Version}
use Rattle.des_key_blocks.proofs.HexBytes.{length-hex_of}
use Rattle.des_key_blocks.proofs.JoinedBlocks.{eight-blocks, length-joined}
use Rattle.des_key_blocks.proofs.SealedOnce.{sealed-eight, sealed-encrypted, sealed_mac-length}

pub length-key_data : (key padding : List ℕ) → length (key_data key padding) ≡ 2 + length key + length padding
length-key_data key padding =
    length-append (to_be_bytes w16 (8 * length key)) (key ++ padding) ∙ ap (λ n. 2 + n) (length-append key padding)
    ∙ omega arith

-- a key has 8 bytes at least, and 24 at most
key-lengths : (n : ℕ) → IsTrue (n == 8 || n == 16 || n == 24) → (8 ≤ n) × (n ≤ 24)
key-lengths n is = (grind (arith, nat_tests), grind (arith, nat_tests))

-- the lengths of a key and padding, as numbers
data-made : (b : Bool) (n m : ℕ) → IsTrue b → m ≡ 8 * n → n ≤ 4 → IsTrue (b && m % 8 == 0 && nat_le m 32)
data-made true n m is count few = grind (arith, nat_tests)
data-made false n m is count few = absurd (cc is)

data-lengths : (b : Bool) (m : ℕ) → IsTrue (b && m % 8 == 0 && nat_le m 32) → IsTrue b × (m % 8 ≡ 0) × (m ≤ 32)
data-lengths true m is = (refl, grind (arith, nat_tests), grind (arith, nat_tests))
data-lengths false m is = absurd (cc is)

pub key-data-made : (key padding : List ℕ) (n : ℕ) → IsTrue (is_key key) → length (key_data key padding) ≡ 8 * n → n ≤ 4
    → IsTrue (is_key_data key padding)
key-data-made key padding n is count few =
    data-made (is_key key) n (2 + length key + length padding) is (sym (length-key_data key padding) ∙ count) few

-- what is key data
pub record KeyDataLengths (key padding : List ℕ) : Type 0 where
  pub is_key_there : IsTrue (is_key key)
  pub least : 8 ≤ length key
  pub most : length key ≤ 24
  pub whole : (2 + length key + length padding) % 8 ≡ 0
  pub within : 2 + length key + length padding ≤ 32

pub key-data-lengths : (key padding : List ℕ) → IsTrue (is_key_data key padding) → KeyDataLengths key padding
key-data-lengths key padding is =
    let parts = data-lengths (is_key key) (2 + length key + length padding) is in
    let bounds = key-lengths (length key) parts.0 in
    record { is_key_there = parts.0; least = bounds.0; most = bounds.1; whole = parts.1; within = parts.2 }

of_blocks : (n : ℕ) → 1 ≤ n → n ≤ 4 → IsTrue (16 * n == 16 || 16 * n == 32 || 16 * n == 48 || 16 * n == 64)
of_blocks zero from to = absurd (omega arith)
of_blocks (suc zero) from to = refl
of_blocks (suc (suc zero)) from to = refl
of_blocks (suc (suc (suc zero))) from to = refl
of_blocks (suc (suc (suc (suc zero)))) from to = refl
of_blocks (suc (suc (suc (suc (suc n))))) from to = absurd (omega arith)

-- one to four blocks and a MAC have a length of key data
pub sealed-length : (version : Version) (n size : ℕ) → 1 ≤ n → n ≤ 4 → size ≡ 16 * n + 2 * mac_size version
    → IsTrue (is_sealed_length version size)
sealed-length version n size from to count =
    let digits : size - 2 * mac_size version ≡ 16 * n = omega arith in
    subst (λ m. IsTrue (m == 16 || m == 32 || m == 48 || m == 64)) (sym digits) (of_blocks n from to)

-- what is sealed of key data has such a length
pub key-data-sealed : (version : Version) (protection front key padding text : List ℕ)
    → IsTrue (is_key_data key padding) → IsSealed version protection front (key_data key padding) text → IsTrue (is_sealed_length version (length text))
key-data-sealed version protection front key padding text is sealed =
    let clear : List ℕ = key_data key padding in
    let bounds = key-data-lengths key padding is in
    let n : ℕ = length sealed.blocks in
    let count : 8 * n ≡ 2 + length key + length padding =
    sym (length-joined sealed.blocks (sealed-eight version protection front clear text sealed))
    ∙ ap length sealed.is_clear ∙ length-key_data key padding in
    let encrypted : length (joined sealed.encrypted) ≡ 8 * n =
    length-joined sealed.encrypted
    (eight-blocks sealed.encrypted (sealed-encrypted version protection front clear text sealed))
    ∙ ap (λ m. 8 * m) sealed.chained.count in
    sealed-length version n (length text) (omega (arith, bounds.least)) (omega (arith, bounds.within))
    (ap length sealed.is_text
    ∙ omega (
      arith,
      length-append (hex_of (joined sealed.encrypted)) (hex_of sealed.mac),
      length-hex_of (joined sealed.encrypted),
      length-hex_of sealed.mac,
      sealed_mac-length version protection front clear text sealed,
    ))
