-- Columns: the bits of one number in each of eight bytes. They are the rows of the permutations.
use Rattle.std.proofs.Common.{◌≡◌, ℕ, zero, suc, ◌+◌, ◌-◌, ◌*◌, ◌/◌, ◌%◌, ◌^◌, ◌<◌, ◌==◌, nat_lt, true, lit≤, List, [], ◌∷◌, ◌++◌, Bool, map, get_or, refl, sym, ap, ap₂, ◌∙◌, arith, shr-shr}
use Rattle.std.specs.Int.{w64, bit_at, byte_at, to_le_bytes}
use Rattle.std.specs.List.{flat_map, list_all}
use Rattle.std.specs.Simd.Lanes.{zip2, number_l, digits_l}
use Rattle.std.proofs.lemmas.Nat.{shr_split}
use Rattle.std.proofs.lemmas.Nat.Bits.{bit_at_cat_low}
use Rattle.std.proofs.lemmas.Bool.{and_parts, ltb-true}
use Rattle.std.proofs.lemmas.Simd.{get_or_narrower, below_from_Fits}
use Rattle.des.specs.Bits.{bits_of, bits_of_bytes, bits_of_word, select}
use Rattle.des.specs.Tables.{final_permutation}
use Rattle.des_fast.specs.Groups.{half_positions}
use Rattle.des_fast.specs.HalfBlocks.{first_halves}
use Rattle.des.specs.Laws.BitLists.{bits_of_bytes-to_be}
use Rattle.des_fast.proofs.SliceBits.{IsSlice}
use Rattle.des_fast.proofs.PlacedBytes.{byte_at-is}

-- ---- the bytes doubled

abbrev pub twice : List ℕ → List ℕ
twice bytes = zip2 (λ a b. (a + b) % 2 ^ 8) bytes bytes

get_or-twice : (bytes : List ℕ) (i : ℕ)
    → get_or (twice bytes) i 0 ≡ (get_or bytes i 0 + get_or bytes i 0) % 2 ^ 8
get_or-twice [] i = refl
get_or-twice (byte ∷ bytes) zero = refl
get_or-twice (byte ∷ bytes) (suc i) = get_or-twice bytes i

-- each bit of a byte goes one place to the left
bit_at-double : (x j : ℕ) → j < 7 → bit_at ((x + x) % 2 ^ 8) (suc j) ≡ bit_at x j
bit_at-double x (suc (suc (suc (suc (suc (suc (suc j))))))) below = absurd (omega arith)
bit_at-double x j below = omega arith

-- the bytes doubled some times
abbrev pub doubled : ℕ → List ℕ → List ℕ
doubled zero bytes = bytes
doubled (suc k) bytes = twice (doubled k bytes)

-- a bit has gone as many places
bit_at-doubled : (k i j : ℕ) (bytes : List ℕ) → k + j < 8
    → bit_at (get_or (doubled k bytes) i 0) (k + j) ≡ bit_at (get_or bytes i 0) j
bit_at-doubled zero i j bytes below = ap (bit_at (get_or bytes i 0)) (omega arith)
bit_at-doubled (suc k) i j bytes below =
    ap₂ bit_at (get_or-twice (doubled k bytes) i) (omega arith)
    ∙ bit_at-double (get_or (doubled k bytes) i 0) (k + j) (omega arith)
    ∙ bit_at-doubled k i j bytes (omega arith)

-- and bit k + 1 stands in the first place
pub first-doubled : (k i : ℕ) (bytes : List ℕ) → k < 8
    → bit_at (get_or (doubled k bytes) i 0) 7 ≡ bit_at (get_or bytes i 0) (7 - k)
first-doubled k i bytes below =
    let last : 7 ≡ k + (7 - k) = omega arith in
    ap (bit_at (get_or (doubled k bytes) i 0)) last ∙ bit_at-doubled k i (7 - k) bytes (omega arith)

-- ---- rows

-- a number whose bits are those of number k, from 0, of eight bytes, the first byte's the least significant
abbrev pub IsColumn : (ℕ → ℕ) → ℕ → ℕ → Type 0
IsColumn byte k number = (i : ℕ) → i < 8 → bit_at number i ≡ bit_at (byte i) (7 - k)

abbrev pub AreColumns : (ℕ → ℕ) → (ℕ → ℕ) → Type 0
AreColumns byte number = (k : ℕ) → k < 8 → IsColumn byte k (number k)

-- a byte of each column of sixteen bytes is one of eight of them
pub AreColumns-part : (byte number : ℕ → ℕ)
    → ((k i : ℕ) → k < 8 → i < 16 → bit_at (number k) i ≡ bit_at (byte i) (7 - k)) → (b : ℕ) → b < 2
    → AreColumns (λ i. byte (8 * b + i)) (λ k. number k / 2 ^ (8 * b) % 2 ^ 8)
AreColumns-part byte number are b within k below i inside =
    let part : ℕ = number k / 2 ^ (8 * b) in
    sym (bit_at_cat_low (part / 2 ^ 8) 8 (part % 2 ^ 8) i inside)
    ∙ ap (λ (n : ℕ). bit_at n i) (shr_split part 8)
    ∙ ap (λ (n : ℕ). n % 2) (shr-shr (number k) (8 * b) i)
    ∙ are k (8 * b + i) below (omega arith)

-- these bits from the last byte to the first
abbrev pub column : (ℕ → ℕ) → ℕ → List Bool
column byte k = map (λ i. bit_at (byte i) (7 - k) == 1) (7 ∷ 6 ∷ 5 ∷ 4 ∷ 3 ∷ 2 ∷ 1 ∷ 0 ∷ [])

bits_of-column : (byte : ℕ → ℕ) (k number : ℕ) → IsColumn byte k number → bits_of 8 number ≡ column byte k
unfolding bits_of
bits_of-column byte k number is =
    rw (is 7 (lit≤ tt), is 6 (lit≤ tt), is 5 (lit≤ tt), is 4 (lit≤ tt)) (
    rw (is 3 (lit≤ tt), is 2 (lit≤ tt), is 1 (lit≤ tt), is 0 (lit≤ tt)) refl)

-- bytes that are columns, and more after them
bits_of-columns : (number byte : ℕ → ℕ) → AreColumns byte number → (order more : List ℕ)
    → list_all (λ k. nat_lt k 8) order ≡ true
    → bits_of_bytes (map number order ++ more) ≡ flat_map (column byte) order ++ bits_of_bytes more
unfolding bits_of_bytes
bits_of-columns number byte are [] more below = refl
bits_of-columns number byte are (k ∷ order) more below =
    let parts = and_parts (nat_lt k 8) _ below in
    ap₂ ◌++◌ (bits_of-column byte k (number k) (are k (ltb-true _ _ parts.0)))
    (bits_of-columns number byte are order more parts.1)

-- four columns, twice
pub bits_of-twice : (number byte : ℕ → ℕ) → AreColumns byte number → (h i j k : ℕ)
    → list_all (λ k. nat_lt k 8) (h ∷ i ∷ j ∷ k ∷ []) ≡ true
    → let half = flat_map (column byte) (h ∷ i ∷ j ∷ k ∷ []) in
    bits_of_bytes (map number (h ∷ i ∷ j ∷ k ∷ h ∷ i ∷ j ∷ k ∷ [])) ≡ half ++ half
unfolding bits_of_bytes
bits_of-twice number byte are h i j k below =
    let order : List ℕ = h ∷ i ∷ j ∷ k ∷ [] in
    bits_of-columns number byte are order (map number order) below
    ∙ ap (λ bits. flat_map (column byte) order ++ bits) (bits_of-columns number byte are order [] below)

-- the halves of the initial permutation are columns
pub first_halves-columns : (byte : ℕ → ℕ)
    → (flat_map (column byte) (1 ∷ 3 ∷ 5 ∷ 7 ∷ []), flat_map (column byte) (0 ∷ 2 ∷ 4 ∷ 6 ∷ []))
    ≡ first_halves (map byte (0 ∷ 1 ∷ 2 ∷ 3 ∷ 4 ∷ 5 ∷ 6 ∷ 7 ∷ []))
unfolding bits_of bits_of_bytes select
first_halves-columns byte = refl

-- so are the bytes of the final permutation, of the groups of two halves from the last to the first
pub final : (e even o odd : ℕ → ℕ) → AreColumns even e → AreColumns odd o → let half : (ℕ → ℕ) → List Bool = λ place.
    select half_positions (bits_of_bytes (map (λ i. odd (place i)) (3 ∷ 2 ∷ 1 ∷ 0 ∷ [])
    ++ map (λ i. even (place i)) (3 ∷ 2 ∷ 1 ∷ 0 ∷ []))) in
    bits_of_bytes (map e (6 ∷ 5 ∷ 4 ∷ 3 ∷ []) ++ map o (6 ∷ 5 ∷ 4 ∷ 3 ∷ []))
    ≡ select final_permutation (half (λ i. 2 * i) ++ half (λ i. 2 * i + 1))
unfolding bits_of bits_of_bytes select
final e even o odd are_even are_odd =
    bits_of-columns e even are_even (6 ∷ 5 ∷ 4 ∷ 3 ∷ []) (map o (6 ∷ 5 ∷ 4 ∷ 3 ∷ [])) refl
    ∙ ap (λ bits. flat_map (column even) (6 ∷ 5 ∷ 4 ∷ 3 ∷ []) ++ bits)
    (bits_of-columns o odd are_odd (6 ∷ 5 ∷ 4 ∷ 3 ∷ []) [] refl)

-- ---- the bytes of vectors of two words

-- the bits of a word are those of its bytes from the last to the first
pub bits_of_word-le : (word : ℕ) (bytes : List ℕ) → to_le_bytes w64 word ≡ bytes
    → bits_of_word word ≡ bits_of_bytes (map (λ i. get_or bytes i 0) (7 ∷ 6 ∷ 5 ∷ 4 ∷ 3 ∷ 2 ∷ 1 ∷ 0 ∷ []))
bits_of_word-le word bytes same =
    sym (bits_of_bytes-to_be word)
    ∙ ap (λ (bs : List ℕ). bits_of_bytes (map (λ i. get_or bs i 0) (7 ∷ 6 ∷ 5 ∷ 4 ∷ 3 ∷ 2 ∷ 1 ∷ 0 ∷ []))) same

-- so are the bits of the bytes of a word of a vector
pub bits_of_lane : (words : List ℕ) (b : ℕ) → IsSlice 2 words → b < 2
    → bits_of_bytes (map (λ i. get_or (digits_l 256 16 (number_l (2 ^ 64) words)) (8 * b + i) 0)
    (7 ∷ 6 ∷ 5 ∷ 4 ∷ 3 ∷ 2 ∷ 1 ∷ 0 ∷ []))
    ≡ bits_of_word (get_or words b 0)
bits_of_lane words b are within =
    let word : ℕ = get_or words b 0 in
    let at : (i : ℕ) → i < 8 → get_or (digits_l 256 16 (number_l (2 ^ 64) words)) (8 * b + i) 0 ≡ byte_at i word =
    λ i below. get_or_narrower (2 ^ 64) 8 256 16 words b i refl (below_from_Fits w64 words are.1) below (omega arith)
    ∙ sym (byte_at-is i word) in
    ap bits_of_bytes (λ j. at 7 (lit≤ tt) j ∷ at 6 (lit≤ tt) j ∷ at 5 (lit≤ tt) j ∷ at 4 (lit≤ tt) j
    ∷ at 3 (lit≤ tt) j ∷ at 2 (lit≤ tt) j ∷ at 1 (lit≤ tt) j ∷ at 0 (lit≤ tt) j ∷ [])
    ∙ bits_of_bytes-to_be word
