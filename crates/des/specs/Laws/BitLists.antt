-- Numbers and bytes, and their lists of bits.
use Rattle.std.proofs.Common.{◌≡◌, ℕ, zero, suc, ◌+◌, ◌*◌, ◌/◌, ◌%◌, ◌^◌, ◌<◌, ◌==◌, Bool, true, false, if◌then◌else◌, List, [], ◌∷◌, ◌++◌, length, slice_index, refl, ap, ap₂, sym, ◌∙◌, arith, suc-add, zero-add, add_comm, shr-shr, lt-suc_self, one-add, pow-suc, one-mul, zero-mul, length-append, mul-suc, div-one, pow-add, mod-eq_of_lt}
use Rattle.std.specs.Int.{bit_at, w64, to_be_bytes, from_be_bytes, byte_at, bytes_high_first}
use Rattle.std.proofs.lemmas.Nat.{shr_split, shr_high, mod_low, mod-pow-add, be_bytes_8}
use Rattle.std.proofs.lemmas.Nat.Bits.{bit_at-lt, bit_at_cat_low}
use Rattle.std.proofs.lemmas.Bool.Decides.{nat_tests}
use Rattle.des.specs.Bits.{bits_of, bits_of_word, bits_of_bytes, number_of}

-- ---- the bits of a number

-- n bits make a list of length n
pub length-bits_of : (n x : ℕ) → length (bits_of n x) ≡ n
unfolding bits_of
length-bits_of zero x = refl
length-bits_of (suc n) x = ap suc (length-bits_of n x)

-- two numbers with the same lowest n bits have the same list of n bits
bits_of-same : (n x y : ℕ) → ((i : ℕ) → i < n → bit_at x i ≡ bit_at y i) → bits_of n x ≡ bits_of n y
unfolding bits_of
bits_of-same zero x y same = refl
bits_of-same (suc n) x y same =
    ap₂ (λ (top : ℕ) (rest : List Bool). (top == 1) ∷ rest)
    (same n (lt-suc_self n))
    (bits_of-same n x y (λ i within. same i (omega arith)))

-- the high bits of a number are those of its quotient
pub bits_of-split : (m n x : ℕ) → bits_of (m + n) x ≡ bits_of m (x / 2 ^ n) ++ bits_of n x
unfolding bits_of
bits_of-split zero n x = ap (λ (k : ℕ). bits_of k x) (zero-add n)
bits_of-split (suc m) n x = rw (suc-add m n, bits_of-split m n x, shr-shr x n m, add_comm n m)

-- a remainder by 2 ^ n keeps the lowest n bits
pub bits_of-mod : (n x : ℕ) → bits_of n (x % 2 ^ n) ≡ bits_of n x
bits_of-mod n x =
    bits_of-same n (x % 2 ^ n) x
    (λ i below. rw (← bit_at_cat_low (x / 2 ^ n) n (x % 2 ^ n) i below, shr_split x n))

-- a number made of a high and a low part has the bits of the two, one after the other
pub bits_of-cat : (m n high low : ℕ) → low < 2 ^ n
    → bits_of (m + n) (high * 2 ^ n + low) ≡ bits_of m high ++ bits_of n low
bits_of-cat m n high low fits =
    let number : ℕ = high * 2 ^ n + low in
    rw (bits_of-split m n number, shr_high, ← bits_of-mod n number, mod_low)

-- ---- the number that bits write

-- what a digit below 2 is worth, by its test
digit_worth : (digit value : ℕ) → digit < 2 → (if digit == 1 then value else 0) ≡ digit * value
digit_worth digit value small = grind (arith, nat_tests)

-- n bits of a number write its remainder by 2 ^ n
pub number_of-bits_of : (n x : ℕ) → number_of (bits_of n x) ≡ x % 2 ^ n
unfolding bits_of number_of
number_of-bits_of zero x = omega arith
number_of-bits_of (suc n) x =
    rw (
      length-bits_of n x,
      number_of-bits_of n x,
      digit_worth (bit_at x n) (2 ^ n) (bit_at-lt x n),
      ← one-add n,
    )
    (sym (mod-pow-add x 1 n))

-- the bits of a word write it
pub number_of-bits_of_word : (word : ℕ) → word < 2 ^ 64 → number_of (bits_of_word word) ≡ word
number_of-bits_of_word word below = number_of-bits_of 64 word ∙ mod-eq_of_lt below

-- a list of n bits writes a number below 2 ^ n
pub number_of-lt : (bits : List Bool) → number_of bits < 2 ^ length bits
unfolding number_of
number_of-lt [] = omega arith
number_of-lt (bit ∷ bits) = grind (arith, number_of-lt bits, pow-suc 2 (length bits))

-- a bit worth 2 ^ n, and n bits after it
bits_of-worth : (bit : Bool) (n low : ℕ) → low < 2 ^ n
    → bits_of (suc n) ((if bit then 2 ^ n else 0) + low) ≡ bit ∷ bits_of n low
unfolding bits_of
bits_of-worth true n low fits =
    ap₂ (λ (k high : ℕ). bits_of k (high + low)) (sym (one-add n)) (sym (one-mul (2 ^ n)))
    ∙ bits_of-cat 1 n 1 low fits
bits_of-worth false n low fits =
    ap₂ (λ (k high : ℕ). bits_of k (high + low)) (sym (one-add n)) (sym (zero-mul (2 ^ n)))
    ∙ bits_of-cat 1 n 0 low fits

-- the bits of the number that bits write are those bits
pub bits_of-number_of : (bits : List Bool) → bits_of (length bits) (number_of bits) ≡ bits
unfolding bits_of number_of
bits_of-number_of [] = refl
bits_of-number_of (bit ∷ bits) =
    bits_of-worth bit (length bits) (number_of bits) (number_of-lt bits)
    ∙ ap (λ (rest : List Bool). bit ∷ rest) (bits_of-number_of bits)

-- ---- the bits of bytes

-- bytes have eight bits each
pub length-bits_of_bytes : (bytes : List ℕ) → length (bits_of_bytes bytes) ≡ 8 * length bytes
unfolding bits_of_bytes
length-bits_of_bytes [] = refl
length-bits_of_bytes (byte ∷ bytes) =
    simp (length-append, length-bits_of, length-bits_of_bytes bytes) (omega arith)

-- a power of 256 as one of 2
pow_256 : (k : ℕ) → 256 ^ k ≡ 2 ^ (8 * k)
pow_256 zero = refl
pow_256 (suc k) = rw (mul-suc 8 k, pow-add 2 (8 * k) 8, ← pow_256 k) (pow-suc 256 k)

-- the bits of byte k of a number, the lowest being byte 0
bits_of-byte_at : (k n : ℕ) → bits_of 8 (byte_at k n) ≡ bits_of 8 (n / 2 ^ (8 * k))
bits_of-byte_at zero n = bits_of-mod 8 n ∙ ap (bits_of 8) (sym (div-one n))
bits_of-byte_at (suc k) n =
    bits_of-mod 8 (n / 256 ^ suc k) ∙ ap (λ (m : ℕ). bits_of 8 (n / m)) (pow_256 (suc k))

-- the bits of the lowest k bytes of a number, the highest first, are its lowest 8 * k bits
bits_of_bytes-bytes_high_first : (k n : ℕ)
    → bits_of_bytes (bytes_high_first k n) ≡ bits_of (8 * k) n
unfolding bits_of_bytes bits_of
bits_of_bytes-bytes_high_first zero n = refl
bits_of_bytes-bytes_high_first (suc k) n =
    ap₂ ◌++◌ (bits_of-byte_at k n) (bits_of_bytes-bytes_high_first k n)
    ∙ sym (bits_of-split 8 (8 * k) n)
    ∙ ap (λ (m : ℕ). bits_of m n) (omega arith)

-- a word has the bits of its eight bytes, the highest first
pub bits_of_bytes-to_be : (word : ℕ) → bits_of_bytes (to_be_bytes w64 word) ≡ bits_of_word word
bits_of_bytes-to_be word = bits_of_bytes-bytes_high_first 8 word

-- eight bytes have the bits of the word that they write, the highest first
pub bits_of_bytes-from_be : (bytes : List ℕ) → length bytes ≡ 8
    → ((i : ℕ) → slice_index bytes i < 256)
    → bits_of_bytes bytes ≡ bits_of_word (from_be_bytes w64 bytes)
bits_of_bytes-from_be bytes eight small =
    ap bits_of_bytes (sym (be_bytes_8 bytes (from_be_bytes w64 bytes) eight small refl))
    ∙ bits_of_bytes-bytes_high_first 8 (from_be_bytes w64 bytes)
