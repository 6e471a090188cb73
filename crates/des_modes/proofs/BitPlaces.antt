-- The bits of bytes, of parts of them and of bytes of which one bit is changed.
use Rattle.std.proofs.Common.{◌≡◌, ◌≢◌, ℕ, zero, suc, ◌+◌, ◌-◌, ◌*◌, ◌/◌, ◌%◌, ◌^◌, ◌<◌, ◌≤◌, ◌==◌, inl, inr, Bool, true, false, List, [], ◌∷◌, ◌++◌, length, get_or, set, take, drop, bit_or, bit_xor, refl, ap, ap₂, sym, ◌∙◌, arith, append_assoc, take_at, drop_at, length-drop, length-take-le, one-mul, mod-eq_of_lt}
use Rattle.std.proofs.Math.Pow.{pow-lt}
use Rattle.std.specs.Int.{bit_at, w64, from_be_bytes, to_be_bytes}
use Rattle.std.proofs.Math.ListN.{get_or-append}
use Rattle.std.proofs.lemmas.Bool.{cases_eq}
use Rattle.std.proofs.lemmas.List.{drop-append-le, ext_get_or, get_or-append_right, get_or-set_same, get_or-set_other, length-set, take-append-drop, take_all}
use Rattle.std.proofs.lemmas.Nat.Bits.{bit_at-pow_same, bit_at-pow_other, bit_at-zero}
use Rattle.std.proofs.lemmas.Bool.Decides.{nat_tests}
use mir.Val.{bool_byte}
use Rattle.des.specs.Bits.{bits_of, bits_of_bytes, xor}
use Rattle.des.specs.Blocks.{IsBlock}
use Rattle.des.specs.Laws.BitLists.{length-bits_of, length-bits_of_bytes, bits_of_bytes-to_be, bits_of_bytes-from_be}
use Rattle.des.specs.Laws.BlockBits.{block_of_bits-bits_of_bytes, slice_index-lt}
use Rattle.des.proofs.BitParts.{get_or-bits_of, bit_at-xor, drop-bits_of, bits_of-or_shl}
use Rattle.des_fast.proofs.XoredLists.{xor-false}
use Rattle.des_modes.specs.Cfb.{block_bit, first_bits}
use Rattle.des_modes.specs.Streams.{plaintext, ciphertext}
use Rattle.des_modes.specs.declared.direction.Direction.{Direction}
use Rattle.des_modes.specs.declared.direction.Direction.TheVariants.{Encrypt, Decrypt}

-- ---- parts

pub bits-append : (a b : List ℕ) → bits_of_bytes (a ++ b) ≡ bits_of_bytes a ++ bits_of_bytes b
unfolding bits_of_bytes
bits-append [] b = refl
bits-append (byte ∷ a) b = rw (bits-append a b) (sym (append_assoc (bits_of 8 byte) (bits_of_bytes a) (bits_of_bytes b)))

split : (n : ℕ) (bytes : List ℕ) → bits_of_bytes bytes ≡ bits_of_bytes (take n bytes) ++ bits_of_bytes (drop n bytes)
split n bytes = ap bits_of_bytes (sym (take-append-drop n bytes)) ∙ bits-append (take n bytes) (drop n bytes)

length-front : (n m : ℕ) (bytes : List ℕ) → n ≤ length bytes → m ≡ 8 * n → length (bits_of_bytes (take n bytes)) ≡ m
length-front n m bytes within same =
    omega (arith, length-bits_of_bytes (take n bytes), length-take-le n bytes within)

-- all bits of the two texts
first_bits-text : (n : ℕ) (text : List ℕ) → length text ≡ n → first_bits (8 * n) text ≡ bits_of_bytes text
first_bits-text n text same = take_all (8 * n) (bits_of_bytes text) (omega (arith, length-bits_of_bytes text))

pub first_bits-all : (direction : Direction) (old new : List ℕ) → length new ≡ length old
    → (first_bits (8 * length old) (plaintext direction old new) ≡ bits_of_bytes (plaintext direction old new))
    × (first_bits (8 * length old) (ciphertext direction old new) ≡ bits_of_bytes (ciphertext direction old new))
first_bits-all Encrypt old new same = (first_bits-text _ old refl, first_bits-text _ new same)
first_bits-all Decrypt old new same = (first_bits-text _ new same, first_bits-text _ old refl)

-- the register in bits: eight bytes of two lists
pub bits-window : (n m : ℕ) (a b : List ℕ) → n + 8 ≤ length (a ++ b) → m ≡ 8 * n
    → take 64 (drop m (bits_of_bytes a ++ bits_of_bytes b)) ≡ bits_of_bytes (take 8 (drop n (a ++ b)))
bits-window n m a b within same =
    let all : List ℕ = a ++ b in
    let rest : List ℕ = drop n all in
    let long : 8 ≤ length rest = omega (arith, length-drop n all) in
    let front = length-front n m all (omega arith) same in
    rw (← bits-append a b, split n all, drop_at (bits_of_bytes (take n all)) (bits_of_bytes rest) m front, split 8 rest)
    (take_at (bits_of_bytes (take 8 rest)) (bits_of_bytes (drop 8 rest)) 64 (length-front 8 64 rest long refl))

-- ---- bit after bit

-- bit 8 j + r of bytes is bit r of byte j
pub block_bit-at : (bytes : List ℕ) (j r i : ℕ) → i ≡ 8 * j + r → j < length bytes → r < 8
    → block_bit bytes i ≡ (bit_at (get_or bytes j 0) (7 - r) == 1)
unfolding bits_of_bytes
block_bit-at [] j r i same within below = absurd (omega arith)
block_bit-at (byte ∷ bytes) zero r i same within below =
    let place : i ≡ r = omega arith in
    rw (place, get_or-append (bits_of 8 byte) (bits_of_bytes bytes) false r (omega (arith, length-bits_of 8 byte)))
    (get_or-bits_of 8 byte r below)
block_bit-at (byte ∷ bytes) (suc j) r i same within below =
    get_or-append_right (bits_of 8 byte) (bits_of_bytes bytes) 8 i false (length-bits_of 8 byte) (omega arith)
    ∙ block_bit-at bytes j r (i - 8) (omega arith) (omega arith) below

pub block_bit_of_byte : (bytes : List ℕ) (i : ℕ) → i < 8 * length bytes
    → block_bit bytes i ≡ (bit_at (get_or bytes (i / 8) 0) (7 - i % 8) == 1)
block_bit_of_byte bytes i within = block_bit-at bytes (i / 8) (i % 8) i (omega arith) (omega arith) (omega arith)

-- a block is the block of its bits
pub ruleset bits_of_a_block = (block_of_bits-bits_of_bytes)

-- ---- a bit that is changed

-- a mask has its bit, and no other
mask_bits : (bit : Bool) (a : ℕ) → a < 8 → ((bit_at (bool_byte bit * 2 ^ a % 256) a == 1) ≡ bit)
    × ((k : ℕ) → k ≢ a → (bit_at (bool_byte bit * 2 ^ a % 256) k == 1) ≡ false)
mask_bits true a below =
    let one = ap (λ (m : ℕ). m % 256) (one-mul (2 ^ a)) ∙ mod-eq_of_lt (pow-lt below) in
    rw one (ap (λ (m : ℕ). m == 1) (bit_at-pow_same a), λ k other. ap (λ (m : ℕ). m == 1) (bit_at-pow_other a k other))
mask_bits false a below =
    let none : 0 * 2 ^ a % 256 ≡ 0 = omega arith in
    rw none (ap (λ (m : ℕ). m == 1) (bit_at-zero a), λ k other. ap (λ (m : ℕ). m == 1) (bit_at-zero k))

pub bits_xored : (bytes : List ℕ) (place : ℕ) (bit : Bool) → place < 8 * length bytes
    → bits_of_bytes (set bytes (place / 8) (bit_xor (get_or bytes (place / 8) 0) (bool_byte bit * 2 ^ (7 - place % 8) % 256)))
    ≡ set (bits_of_bytes bytes) place (xor (block_bit bytes place) bit)
bits_xored bytes place bit within =
    let j : ℕ = place / 8 in
    let a : ℕ = 7 - place % 8 in
    let mask : ℕ = bool_byte bit * 2 ^ a % 256 in
    let masks = mask_bits bit a (omega arith) in
    let byte : ℕ = bit_xor (get_or bytes j 0) mask in
    let bits : List Bool = bits_of_bytes bytes in
    let y : Bool = xor (block_bit bytes place) bit in
    let many : length (set bytes j byte) ≡ length bytes = length-set bytes j byte in
    ext_get_or false (bits_of_bytes (set bytes j byte)) (set bits place y)
    (omega (arith, length-bits_of_bytes (set bytes j byte), length-bits_of_bytes bytes, length-set bits place y)) (λ i below.
    let inside : i < 8 * length bytes = omega (arith, length-bits_of_bytes (set bytes j byte)) in
    let k : ℕ = 7 - i % 8 in
    let now = block_bit_of_byte (set bytes j byte) i (omega arith) in
    let was = block_bit_of_byte bytes i inside in
    let xored : i / 8 ≡ j → block_bit (set bytes j byte) i ≡ xor (block_bit bytes i) (bit_at mask k == 1) = λ here.
    rw (now, was, here, get_or-set_same bytes j byte 0 (omega arith)) (bit_at-xor (get_or bytes j 0) mask k) in
    elim (cases_eq i place) [
      | inl same ↦
          cc (xored (ap (λ (n : ℕ). n / 8) same), masks.0, get_or-set_same bits place y false (omega (arith, length-bits_of_bytes bytes)))
      | inr other ↦
          let kept = get_or-set_other bits place i y false other in
          elim (cases_eq (i / 8) j) [
            | inl here ↦ cc (xored here, masks.1 k (omega (arith, other)), xor-false (block_bit bytes i), kept)
            | inr apart ↦ now ∙ ap (λ (x : ℕ). bit_at x k == 1) (get_or-set_other bytes j (i / 8) byte 0 apart) ∙ sym was ∙ sym kept
          ]
    ])

-- ---- a register that is shifted

last_bit : (bit : Bool) → bits_of 1 (bool_byte bit) ≡ bit ∷ []
unfolding bits_of
last_bit true = refl
last_bit false = refl

pub bits_shifted : (register : List ℕ) (bit : Bool) → IsBlock register
    → bits_of_bytes (to_be_bytes w64 (bit_or (from_be_bytes w64 register * 2 ^ 1 % 2 ^ 64) (bool_byte bit)))
    ≡ drop 1 (bits_of_bytes register ++ bit ∷ [])
bits_shifted register bit is_block =
    let word : ℕ = from_be_bytes w64 register in
    let small : bool_byte bit < 2 ^ 1 = grind (arith, nat_tests) in
    bits_of_bytes-to_be (bit_or (word * 2 ^ 1 % 2 ^ 64) (bool_byte bit))
    ∙ bits_of-or_shl 63 1 word (bool_byte bit) small
    ∙ ap₂ ◌++◌
    (sym (ap (drop 1) (bits_of_bytes-from_be register is_block.0 (slice_index-lt register is_block.1)) ∙ drop-bits_of 1 63 word))
    (last_bit bit)
    ∙ sym (drop-append-le 1 (bits_of_bytes register) (bit ∷ []) (omega (arith, length-bits_of_bytes register, is_block.0)))
