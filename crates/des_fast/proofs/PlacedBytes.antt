-- The bits at places of vectors, by their bytes, and shuffles of the bytes of two vectors.
use Rattle.std.proofs.Common.{◌≡◌, ℕ, zero, suc, ◌+◌, ◌-◌, ◌*◌, ◌/◌, ◌%◌, ◌^◌, ◌<◌, ◌==◌, ◌&&◌, nat_lt, Bool, true, false, List, [], ◌∷◌, ◌++◌, length, map, get_or, w64, refl, sym, ap, ap₂, ◌∙◌, arith, shr-shr, zero-add, inl, inr}
use Rattle.std.specs.Int.{bit_at, byte_at, bytes_low_first, to_le_bytes}
use Rattle.std.specs.List.{list_all, range_with_len}
use Rattle.std.specs.Simd.Lanes.{Each1, pick_l, chunk, number_l, digits_l}
use Rattle.std.proofs.Math.Nat.{pow-succ', div-div-eq-div-mul}
use Rattle.std.proofs.lemmas.Bool.{cases_lt, and_parts, eqb-true, ltb-true}
use Rattle.std.proofs.lemmas.List.{length-map, get_or-map, get_or_append_left, get_or-append_right}
use Rattle.std.proofs.lemmas.List.Elements.{All-nil, All-cons}
use Rattle.std.proofs.lemmas.List.FromFn.{fill_by_all}
use Rattle.std.proofs.lemmas.Simd.{get_or_wider, get_or_narrower, get_or-chunk, length-chunk, Each1-chunk, below_from_Fits}
use Rattle.des.specs.Bits.{bits_of, bits_of_bytes}
use Rattle.des.specs.Blocks.{AreBytes, IsBlock}
use Rattle.des.specs.Laws.BitLists.{length-bits_of, length-bits_of_bytes, bits_of-mod}
use Rattle.des.proofs.BitParts.{get_or-bits_of}
use Rattle.des_fast.specs.Slices.{number_in_word, bit_at_place}
use Rattle.des_fast.specs.Transposition.{bits_of_lane, ArePairwise}
use Rattle.des_fast.proofs.RangeTests.{at_range}
use Rattle.des_fast.proofs.SliceBits.{IsSlice, bit_in}
use Rattle.des_fast.proofs.ExchangedRows.{row-bit}

-- a power of 256 below the eighth
pow_bytes : (i : ℕ) → i < 8 → 256 ^ i ≡ 2 ^ (8 * i)
pow_bytes i below = eqb-true _ _ (at_range (λ j. 256 ^ j == 2 ^ (8 * j)) 8 i refl below)

-- bit r of byte i of a word, the least significant byte first, and the most significant bit
byte_bit : (x i r : ℕ) → i < 8 → r < 8 → (bit_at (x / 256 ^ i % 256) (7 - r) == 1) ≡ bit_in x (56 - 8 * i + r)
byte_bit x i r in_word in_byte =
    sym (get_or-bits_of 8 (x / 256 ^ i % 2 ^ 8) r in_byte)
    ∙ ap (λ (bits : List Bool). get_or bits r false) (bits_of-mod 8 (x / 256 ^ i))
    ∙ get_or-bits_of 8 (x / 256 ^ i) r in_byte
    ∙ ap (λ (k : ℕ). bit_at (x / k) (7 - r) == 1) (pow_bytes i in_word)
    ∙ ap (λ (q : ℕ). (q % 2) == 1) (shr-shr x (8 * i) (7 - r))
    ∙ ap (λ (k : ℕ). bit_at x k == 1) (omega arith)
    ∙ sym (get_or-bits_of 64 x (56 - 8 * i + r) (omega arith))

-- the bit of a byte of bytes
get_or-bits_of_bytes : (bytes : List ℕ) (p : ℕ) → p < 8 * length bytes
    → get_or (bits_of_bytes bytes) p false ≡ (bit_at (get_or bytes (p / 8) 0) (7 - p % 8) == 1)
unfolding bits_of_bytes
get_or-bits_of_bytes [] p within = absurd (omega arith)
get_or-bits_of_bytes (byte ∷ bytes) p within =
    elim (cases_lt p 8) [
      | inl low ↦
          let first : p / 8 ≡ 0 = omega arith in
          get_or_append_left (bits_of 8 byte) (bits_of_bytes bytes) false p (omega (arith, length-bits_of 8 byte))
          ∙ get_or-bits_of 8 byte p low
          ∙ ap₂ (λ (n k : ℕ). bit_at (get_or (byte ∷ bytes) n 0) k == 1) (sym first) (omega arith)
      | inr high ↦
          let later : p / 8 ≡ suc ((p - 8) / 8) = omega arith in
          get_or-append_right (bits_of 8 byte) (bits_of_bytes bytes) 8 p false (length-bits_of 8 byte) high
          ∙ get_or-bits_of_bytes bytes (p - 8) (omega arith)
          ∙ ap₂ (λ (n k : ℕ). bit_at (get_or (byte ∷ bytes) n 0) k == 1) (sym later) (omega arith)
    ]

-- bytes of a number, from byte i on
get_or-bytes : (i k n j : ℕ) → j < k → get_or (bytes_low_first i k n) j 0 ≡ byte_at (i + j) n
get_or-bytes i zero n j below = absurd (omega arith)
get_or-bytes i (suc k) n zero below = ap (λ (m : ℕ). byte_at m n) (omega arith)
get_or-bytes i (suc k) n (suc j) below =
    get_or-bytes (suc i) k n j (omega arith) ∙ ap (λ (m : ℕ). byte_at m n) (omega arith)

pub byte_at-is : (i n : ℕ) → byte_at i n ≡ n / 256 ^ i % 256
byte_at-is zero n = omega arith
byte_at-is (suc i) n = refl

-- the bytes of a number are bytes
AreBytes-bytes_low_first : (i k n : ℕ) → AreBytes (bytes_low_first i k n)
AreBytes-bytes_low_first i zero n = All-nil (λ byte. byte < 256)
AreBytes-bytes_low_first i (suc k) n =
    All-cons (λ byte. byte < 256) (byte_at i n) (bytes_low_first (suc i) k n)
    (rw (byte_at-is i n) (omega arith)) (AreBytes-bytes_low_first (suc i) k n)

-- the eight bytes of a word are a block
pub IsBlock-to_le_bytes : (word : ℕ) → IsBlock (to_le_bytes w64 word)
IsBlock-to_le_bytes word = (refl, AreBytes-bytes_low_first 0 8 word)

-- the bits at the places of a word of a vector are those of its bytes, in order
pub bits_of_lane-bytes : (words : List ℕ) (lane : ℕ)
    → bits_of_bytes (to_le_bytes w64 (get_or words lane 0)) ≡ bits_of_lane bit_at_place words lane
bits_of_lane-bytes words lane =
    let word : ℕ = get_or words lane 0 in
    let bytes : List ℕ = to_le_bytes w64 word in
    fill_by_all (λ (p : ℕ). bit_at_place (64 * lane + p) words) (bits_of_bytes bytes) 64 false
    (length-bits_of_bytes bytes)
    (λ p below.
    let place : ℕ = 64 * lane + p in
    let same : place / 64 ≡ lane = omega arith in
    let number : number_in_word place ≡ 56 - 8 * (p / 8) + p % 8 = omega arith in
    get_or-bits_of_bytes bytes p (omega arith)
    ∙ ap (λ (byte : ℕ). bit_at byte (7 - p % 8) == 1)
    (get_or-bytes 0 8 word (p / 8) (omega arith) ∙ ap (λ (i : ℕ). byte_at i word) (zero-add (p / 8))
    ∙ byte_at-is (p / 8) word)
    ∙ byte_bit word (p / 8) (p % 8) (omega arith) (omega arith)
    ∙ sym (ap₂ (λ (l n : ℕ). bit_in (get_or words l 0) n) same number))

-- ---- shuffles

-- the bytes of a vector of n words
abbrev bytes_of : ℕ → List ℕ → List ℕ
bytes_of n words = digits_l 256 (8 * n) (number_l (2 ^ 64) words)

-- the vector of n words of the bytes at some positions of two vectors
abbrev pub shuffled : ℕ → List ℕ → List ℕ → List ℕ → List ℕ
shuffled n positions xs ys =
    digits_l (2 ^ 64) n (number_l 256 (pick_l 0 (bytes_of n xs ++ bytes_of n ys) positions))

-- the positions are those of a step, for row t of its answer
abbrev pub shuffles : ℕ → (ℕ → ℕ → ℕ × ℕ) → ℕ → List ℕ → Bool
shuffles n step t positions =
    (length positions == 8 * n) && list_all (λ b. let from = step t b in
    (nat_lt from.0 2 && nat_lt from.1 (64 * n))
    && ((get_or positions (b / 8) 0 == 8 * n * from.0 + from.1 / 8) && (from.1 % 8 == b % 8)))
    (range_with_len 0 (64 * n))

-- numbers that are bytes
abbrev AllBytes : List ℕ → Type 0
AllBytes xs = Each1 (λ x. x < 256) xs

digits-bytes : (n x : ℕ) → AllBytes (digits_l 256 n x)
digits-bytes zero x = tt
digits-bytes (suc n) x = (omega arith, digits-bytes n (x / 256))

appended-bytes : (xs ys : List ℕ) → AllBytes xs → AllBytes ys → AllBytes (xs ++ ys)
appended-bytes [] ys p q = q
appended-bytes (x ∷ xs) ys p q = (p.0, appended-bytes xs ys p.1 q)

get_or-byte : (xs : List ℕ) (i : ℕ) → AllBytes xs → get_or xs i 0 < 256
get_or-byte [] i p = omega arith
get_or-byte (x ∷ xs) zero p = p.0
get_or-byte (x ∷ xs) (suc i) p = get_or-byte xs i p.1

picked-bytes : (xs ks : List ℕ) → AllBytes xs → AllBytes (pick_l 0 xs ks)
picked-bytes xs [] p = tt
picked-bytes xs (k ∷ ks) p = (get_or-byte xs k p, picked-bytes xs ks p)

length-digits_l : (q n x : ℕ) → length (digits_l q n x) ≡ n
length-digits_l q zero x = refl
length-digits_l q (suc n) x = ap suc (length-digits_l q n (x / q))

-- byte i of the number that bytes write, the lowest first
number_byte : (xs : List ℕ) (i : ℕ) → i < length xs → AllBytes xs → number_l 256 xs / 256 ^ i % 256 ≡ get_or xs i 0
number_byte [] i within fits = absurd (omega arith)
number_byte (x ∷ xs) zero within fits = omega (arith, fits.0)
number_byte (x ∷ xs) (suc i) within fits =
    let rest : ℕ = number_l 256 xs in
    ap (λ (d : ℕ). (x + 256 * rest) / d % 256) (pow-succ' 256 i)
    ∙ ap (λ (q : ℕ). q % 256) (sym (div-div-eq-div-mul (x + 256 * rest) 256 (256 ^ i)))
    ∙ ap (λ (q : ℕ). q / 256 ^ i % 256) (omega (arith, fits.0))
    ∙ number_byte xs i (omega arith) fits.1

-- a byte of a vector
vector_byte : (n : ℕ) (words : List ℕ) (q : ℕ) → IsSlice n words → q < 8 * n
    → get_or (bytes_of n words) q 0 ≡ get_or words (q / 8) 0 / 256 ^ (q % 8) % 256
vector_byte n words q are within =
    ap (λ (k : ℕ). get_or (bytes_of n words) k 0) (omega arith)
    ∙ get_or_narrower (2 ^ 64) 8 256 (8 * n) words (q / 8) (q % 8) refl (below_from_Fits w64 words are.1) (omega arith)
    (omega arith)

-- a byte of two vectors
byte_of_both : (n : ℕ) (xs ys : List ℕ) (t q : ℕ) → IsSlice n xs → IsSlice n ys → t < 2 → q < 8 * n
    → get_or (bytes_of n xs ++ bytes_of n ys) (8 * n * t + q) 0
    ≡ get_or (get_or (xs ∷ ys ∷ []) (1 * t + 0) []) (q / 8) 0 / 256 ^ (q % 8) % 256
byte_of_both n xs ys zero q is_x is_y below within =
    ap (λ (k : ℕ). get_or (bytes_of n xs ++ bytes_of n ys) k 0) (omega arith)
    ∙ get_or_append_left (bytes_of n xs) (bytes_of n ys) 0 q (omega (arith, length-digits_l 256 (8 * n) (number_l (2 ^ 64) xs)))
    ∙ vector_byte n xs q is_x within
byte_of_both n xs ys (suc zero) q is_x is_y below within =
    get_or-append_right (bytes_of n xs) (bytes_of n ys) (8 * n) (8 * n * 1 + q) 0
    (length-digits_l 256 (8 * n) (number_l (2 ^ 64) xs)) (omega arith)
    ∙ ap (λ (k : ℕ). get_or (bytes_of n ys) k 0) (omega arith)
    ∙ vector_byte n ys q is_y within
byte_of_both n xs ys (suc (suc t)) q is_x is_y below within = absurd (omega arith)

-- a byte that stands at a position of the bytes of two vectors
pub shuffled-byte : (n : ℕ) (positions xs ys : List ℕ) (q t from : ℕ) → IsSlice n xs → IsSlice n ys
    → length positions ≡ 8 * n → q < 8 * n → t < 2 → from < 8 * n → get_or positions q 0 ≡ 8 * n * t + from
    → get_or (shuffled n positions xs ys) (q / 8) 0 / 256 ^ (q % 8) % 256
    ≡ get_or (get_or (xs ∷ ys ∷ []) (1 * t + 0) []) (from / 8) 0 / 256 ^ (from % 8) % 256
shuffled-byte n positions xs ys q t from is_x is_y size within in_pair inside at =
    let both : List ℕ = bytes_of n xs ++ bytes_of n ys in
    let picked : List ℕ = pick_l 0 both positions in
    let are : AllBytes picked =
    picked-bytes both positions
    (appended-bytes (bytes_of n xs) (bytes_of n ys) (digits-bytes (8 * n) _) (digits-bytes (8 * n) _)) in
    let length_is : length picked ≡ 8 * n = length-map positions _ ∙ size in
    let i : ℕ = q % 8 in
    let start : ℕ = 8 * (q / 8) in
    let bytes : List ℕ = chunk start 8 picked in
    ap (λ (x : ℕ). x / 256 ^ i % 256) (get_or_wider 256 8 (2 ^ 64) n picked (q / 8) refl are (omega arith))
    ∙ number_byte bytes i (omega (arith, length-chunk start 8 picked (omega arith))) (Each1-chunk (λ x. x < 256) start 8 picked are)
    ∙ get_or-chunk start 8 picked i 0 (omega arith)
    ∙ ap (λ (k : ℕ). get_or picked k 0) (omega arith)
    ∙ get_or-map (λ (k : ℕ). get_or both k 0) positions q 0 0 (omega arith)
    ∙ ap (λ (k : ℕ). get_or both k 0) at
    ∙ byte_of_both n xs ys t from is_x is_y in_pair inside

-- and a bit of it
shuffled-bit : (n : ℕ) (positions xs ys : List ℕ) (b t from : ℕ) → IsSlice n xs → IsSlice n ys
    → length positions ≡ 8 * n → b < 64 * n → t < 2 → from < 64 * n
    → get_or positions (b / 8) 0 ≡ 8 * n * t + from / 8 → from % 8 ≡ b % 8
    → bit_at_place b (shuffled n positions xs ys) ≡ bit_at_place from (get_or (xs ∷ ys ∷ []) (1 * t + 0) [])
shuffled-bit n positions xs ys b t from is_x is_y size within in_pair inside at same =
    let i : ℕ = b / 8 % 8 in
    let words : List ℕ = shuffled n positions xs ys in
    let row : List ℕ = get_or (xs ∷ ys ∷ []) (1 * t + 0) [] in
    let lane : b / 64 ≡ b / 8 / 8 = omega arith in
    ap (λ (l : ℕ). bit_in (get_or words l 0) (56 - 8 * i + b % 8)) lane
    ∙ sym (byte_bit (get_or words (b / 8 / 8) 0) i (b % 8) (omega arith) (omega arith))
    ∙ ap₂ (λ (x r : ℕ). bit_at x (7 - r) == 1)
    (shuffled-byte n positions xs ys (b / 8) t (from / 8) is_x is_y size (omega arith) in_pair (omega arith) at) (sym same)
    ∙ byte_bit (get_or row (from / 8 / 8) 0) (from / 8 % 8) (from % 8) (omega arith) (omega arith)
    ∙ ap (λ (lane : ℕ). bit_in (get_or row lane 0) (56 - 8 * (from / 8 % 8) + from % 8)) (omega arith)

-- a bit of row t of two vectors that are shuffled by the positions of a step
at_step : (n : ℕ) (step : ℕ → ℕ → ℕ × ℕ) (t : ℕ) (positions xs ys : List ℕ) (b : ℕ) → shuffles n step t positions ≡ true
    → IsSlice n xs → IsSlice n ys → b < 64 * n
    → bit_at_place b (shuffled n positions xs ys)
    ≡ get_or (map (bit_at_place (step t b).1) (xs ∷ ys ∷ [])) (1 * (step t b).0 + 0) false
at_step n step t positions xs ys b tested is_x is_y within =
    let from : ℕ × ℕ = step t b in
    let all = and_parts (length positions == 8 * n) _ tested in
    let test = at_range (λ c. (nat_lt (step t c).0 2 && nat_lt (step t c).1 (64 * n))
    && ((get_or positions (c / 8) 0 == 8 * n * (step t c).0 + (step t c).1 / 8) && ((step t c).1 % 8 == c % 8))) (64 * n) b
    all.1 within in
    let parts = and_parts (nat_lt from.0 2 && nat_lt from.1 (64 * n)) _ test in
    let inside = and_parts (nat_lt from.0 2) (nat_lt from.1 (64 * n)) parts.0 in
    let at = and_parts (get_or positions (b / 8) 0 == 8 * n * from.0 + from.1 / 8) (from.1 % 8 == b % 8) parts.1 in
    shuffled-bit n positions xs ys b from.0 from.1 is_x is_y (eqb-true _ _ all.0) within (ltb-true _ _ inside.0)
    (ltb-true _ _ inside.1) (eqb-true _ _ at.0) (eqb-true _ _ at.1)
    ∙ row-bit xs ys from.1 from.0 (ltb-true _ _ inside.0)

-- two vectors after a step that shuffles their bytes
pub ArePairwise-shuffled : (n : ℕ) (step : ℕ → ℕ → ℕ × ℕ) (first second xs ys : List ℕ)
    → shuffles n step 0 first ≡ true → shuffles n step 1 second ≡ true → IsSlice n xs → IsSlice n ys
    → ArePairwise (64 * n) bit_at_place 1 step (xs ∷ ys ∷ []) (shuffled n first xs ys ∷ shuffled n second xs ys ∷ [])
ArePairwise-shuffled n step first second xs ys p q is_x is_y zero below b within =
    at_step n step 0 first xs ys b p is_x is_y within
ArePairwise-shuffled n step first second xs ys p q is_x is_y (suc zero) below b within =
    at_step n step 1 second xs ys b q is_x is_y within
ArePairwise-shuffled n step first second xs ys p q is_x is_y (suc (suc m)) below b within = absurd (omega arith)
