-- The parity bits of bytes and of words, the lowest bit of each byte: keys of eight bytes agree outside parity exactly
-- if the upper bits of their bytes are equal, and exactly if their words are equal under the mask of the other
-- bits.
use Rattle.std.proofs.Common.{◌≡◌, ◌↔◌, ℕ, zero, suc, ◌+◌, ◌-◌, ◌*◌, ◌/◌, ◌%◌, ◌<◌, ◌==◌, min, false, List, [], ◌∷◌, length, get_or, slice_index, bit_and, bit_xor, count_ones, IsTrue, refl, ap, ap₂, sym, ◌∙◌, arith}
use Rattle.std.specs.Int.{bit_at, w64, from_be_bytes}
use Rattle.std.specs.Int.Bits.{xor_zero_r}
use Rattle.std.specs.Int.Count.{ones_step}
use Rattle.std.proofs.lemmas.Bool.{eqb-true, eq-eqb}
use Rattle.std.proofs.lemmas.Bool.Decides.{nat_tests}
use Rattle.std.proofs.lemmas.List.{get_or_append_left, get_or-append_right, ext_get_or}
use Rattle.std.proofs.lemmas.List.Elements.{All-from_get_or}
use Rattle.std.proofs.lemmas.Nat.{and_le_r, xor_shr}
use Rattle.std.proofs.lemmas.Nat.Bits.{bit_at-lt, bit_at-zero, bit_at_lowest, bit_at-suc, bit_at_and, bit_at_xor, same_from_bits_below}
use Rattle.des.specs.Bits.{bits_of, bits_of_bytes, bit}
use Rattle.des.specs.Blocks.{IsKey}
use Rattle.des.specs.Parity.{HasOddParity, AgreeOutsideParity}
use Rattle.des.specs.Relations.{IsTheOne}
use Rattle.des.specs.Laws.BitLists.{length-bits_of, bits_of_bytes-from_be}
use Rattle.des.specs.Laws.BlockBits.{slice_index-lt}
use Rattle.des.proofs.ByteArrays.{IsKey-array}
use Rattle.des.proofs.BitParts.{IsPositionIn, get_or-bits_of, bit-bits_of, same_below}

-- two bits are equal if their tests are
same_from_tests : (a b : ℕ) → a < 2 → b < 2 → (a == 1) ≡ (b == 1) → a ≡ b
same_from_tests a b p q same = grind (arith, nat_tests)

-- ---- bytes

-- bit k of the upper seven bits of byte i, from the least significant, is at this index in the bits of bytes
upper_bit : (bytes : List ℕ) (i k index : ℕ) → i < length bytes → k < 7 → index + k ≡ 8 * i + 6
    → get_or (bits_of_bytes bytes) index false ≡ (bit_at (get_or bytes i 0 / 2) k == 1)
unfolding bits_of_bytes
upper_bit [] i k index within below place = absurd (omega arith)
upper_bit (byte ∷ bytes) zero k index within below place =
    let turned : 8 - 1 - index ≡ suc k = omega arith in
    get_or_append_left (bits_of 8 byte) (bits_of_bytes bytes) false index (omega (arith, length-bits_of 8 byte))
    ∙ get_or-bits_of 8 byte index (omega arith)
    ∙ rw (turned, bit_at-suc) refl
upper_bit (byte ∷ bytes) (suc i) k index within below place =
    get_or-append_right (bits_of 8 byte) (bits_of_bytes bytes) 8 index false (length-bits_of 8 byte) (omega arith)
    ∙ upper_bit bytes i k (index - 8) (omega arith) below (omega arith)

-- keys of eight bytes agree outside parity exactly if the upper bits of their bytes are equal
AgreeOutsideParity-upper_bits : (key other : List ℕ) → IsKey 8 key → IsKey 8 other
    → AgreeOutsideParity key other ↔ ((i : ℕ) → i < 8 → get_or key i 0 / 2 ≡ get_or other i 0 / 2)
AgreeOutsideParity-upper_bits key other is_key is_other = (
  λ agree i within.
      same_from_bits_below 7 (get_or key i 0 / 2) (get_or other i 0 / 2)
      (omega (arith, is_key.1 i 0)) (omega (arith, is_other.1 i 0))
      (λ k below.
      let position : ℕ = 8 * i + 7 - k in
      same_from_tests _ _ (bit_at-lt _ k) (bit_at-lt _ k)
      (sym (upper_bit key i k (position - 1) (omega arith) below (omega arith))
      ∙ agree position (omega arith) (omega arith) (λ divides. omega arith)
      ∙ upper_bit other i k (position - 1) (omega arith) below (omega arith))),
  λ upper position from to apart.
      let i : ℕ = (position - 1) / 8 in
      let k : ℕ = 6 - (position - 1) % 8 in
      upper_bit key i k (position - 1) (omega arith) (omega arith) (omega arith)
      ∙ ap (λ (bits : ℕ). bit_at bits k == 1) (upper i (omega arith))
      ∙ sym (upper_bit other i k (position - 1) (omega arith) (omega arith) (omega arith)),
)

-- the other lowest bit turns an even number of ones into an odd one
pub count_ones-xor_one : (x : ℕ) → count_ones x % 2 ≡ 0 → count_ones (bit_xor x 1) % 2 ≡ 1
count_ones-xor_one x even =
    let upper : bit_xor x 1 / 2 ≡ x / 2 = xor_shr x 1 1 ∙ xor_zero_r (x / 2) in
    let lowest : bit_xor x 1 % 2 ≡ (x % 2 + 1) % 2 =
    sym (bit_at_lowest (bit_xor x 1)) ∙ bit_at_xor x 1 0 ∙ rw (bit_at_lowest x) in
    omega (arith, ones_step (bit_xor x 1), ones_step x, ap count_ones upper)

-- eight bytes, each with the upper bits of the key's and an odd number of ones, are the one key that agrees with it
-- outside parity and has odd parity
pub IsTheOne-odd_parity : (key result : List ℕ) → length key ≡ 8 → ((i : ℕ) → slice_index key i < 256)
    → length result ≡ 8 → ((i : ℕ) → i < 8
    → (slice_index result i / 2 ≡ slice_index key i / 2) × (count_ones (slice_index result i) % 2 ≡ 1))
    → IsTheOne (λ other. IsKey 8 other × AgreeOutsideParity key other × HasOddParity other) result
IsTheOne-odd_parity key result eight small result_eight each =
    let is_key = IsKey-array 8 key eight small in
    let is_result : IsKey 8 result = (
      result_eight,
      All-from_get_or (λ byte. byte < 256) result 0 (λ i within. omega (arith, (each i (omega arith)).0, small i)),
    ) in
    let odd : HasOddParity result =
    All-from_get_or (λ byte. count_ones byte % 2 ≡ 1) result 0 (λ i within. (each i (omega arith)).1) in (
      (is_result, (AgreeOutsideParity-upper_bits key result is_key is_result).1 (λ i below. sym (each i below).0), odd),
      λ other given. ext_get_or 0 other result (omega arith) (λ i within.
          let below : i < 8 = omega arith in
          let upper : get_or other i 0 / 2 ≡ get_or result i 0 / 2 =
          sym ((AgreeOutsideParity-upper_bits key other is_key given.0).0 given.1 i below) ∙ sym (each i below).0 in
          omega (arith, ones_step, ap count_ones upper, given.2 i 0 within, (each i below).1)),
    )

-- ---- words

-- the mask of the bits of a word outside parity
abbrev outside_parity : ℕ
outside_parity = 0xfefefefefefefefe

-- a bit of the masked sum modulo 2 of two words is zero exactly if it is a parity bit or the words have it alike
masked-zero : (a b k : ℕ) → k < 64 → (bit_at (bit_and (bit_xor a b) outside_parity) k ≡ 0)
    ↔ (¬ (k % 8 ≡ 0) → (bit_at a k == 1) ≡ (bit_at b k == 1))
masked-zero a b k below =
    let mask : bit_at outside_parity k ≡ min 1 (k % 8) =
    same_below (bit_at outside_parity) (λ k. min 1 (k % 8)) 64 k refl below in
    let masked : bit_at (bit_and (bit_xor a b) outside_parity) k
    ≡ min ((bit_at a k + bit_at b k) % 2) (min 1 (k % 8)) =
    bit_at_and (bit_xor a b) outside_parity k ∙ ap₂ min (bit_at_xor a b k) mask in (
      λ none apart. ap (λ (x : ℕ). x == 1) (omega (arith, masked, bit_at-lt a k, bit_at-lt b k)),
      λ same. rw masked (grind (arith, nat_tests, bit_at-lt a k, bit_at-lt b k)),
    )

-- a bit of a key at a position is a bit of the word that it writes
bit-word : (key : List ℕ) (word position : ℕ) → IsKey 8 key → word ≡ from_be_bytes w64 key → IsPositionIn 64 position
    → bit (bits_of_bytes key) position ≡ (bit_at word (64 - position) == 1)
bit-word key word position is_key same inside =
    rw (bits_of_bytes-from_be key is_key.0 (slice_index-lt key is_key.1), ← same) (bit-bits_of 64 word position inside)

-- keys of eight bytes agree outside parity exactly if the masked sum modulo 2 of their words is zero
pub AgreeOutsideParity-masked : (key other : List ℕ) (a b : ℕ) → IsKey 8 key → IsKey 8 other
    → a ≡ from_be_bytes w64 key → b ≡ from_be_bytes w64 other
    → IsTrue (bit_and (bit_xor a b) outside_parity == 0) ↔ AgreeOutsideParity key other
AgreeOutsideParity-masked key other a b is_key is_other key_word other_word = (
  λ test position from to apart.
      let none = ap (λ (x : ℕ). bit_at x (64 - position)) (eqb-true _ 0 test) ∙ bit_at-zero (64 - position) in
      bit-word key a position is_key key_word (from, to)
      ∙ (masked-zero a b (64 - position) (omega arith)).0 none (λ divides. apart (omega arith))
      ∙ sym (bit-word other b position is_other other_word (from, to)),
  λ agree.
      eq-eqb _ 0 (same_from_bits_below 64 (bit_and (bit_xor a b) outside_parity) 0
      (omega (arith, and_le_r (bit_xor a b) outside_parity)) (omega arith)
      (λ k below.
      let inside : IsPositionIn 64 (64 - k) = (omega arith, omega arith) in
      let place : 64 - (64 - k) ≡ k = omega arith in
      let same : ¬ (k % 8 ≡ 0) → (bit_at a k == 1) ≡ (bit_at b k == 1) = λ apart.
      rw place at (sym (bit-word key a (64 - k) is_key key_word inside)
      ∙ agree (64 - k) inside.0 inside.1 (λ divides. apart (omega arith))
      ∙ bit-word other b (64 - k) is_other other_word inside) in
      (masked-zero a b k below).1 same ∙ sym (bit_at-zero k))),
)
