-- The bits of words, and of the words of slices, by their places.
use Rattle.std.proofs.Common.{◌≡◌, ℕ, suc, ◌+◌, ◌-◌, ◌*◌, ◌/◌, ◌%◌, ◌^◌, ◌<◌, ◌≤◌, ◌==◌, Bool, false, List, [], ◌∷◌, ◌++◌, length, get_or, ap, ap₂, sym, ◌∙◌, arith, shr-shr, inl, inr}
use Rattle.std.specs.Int.{bit_at}
use Rattle.std.proofs.lemmas.List.{get_or_append_left, get_or-append_right, get_or_past, get_or-replicate}
use Rattle.std.proofs.lemmas.Nat.Bits.{bit_at-zero}
use Rattle.std.proofs.lemmas.Bool.{cases_lt}
use Rattle.des.specs.Bits.{bits_of, bits_of_word, zeros}
use Rattle.des.specs.Laws.BitLists.{length-bits_of}
use Rattle.des.proofs.BitParts.{get_or-bits_of, bits_of-shl}
use Rattle.des_fast.specs.Slices.{bits_of_slice}
use Rattle.des_fast.proofs.SliceBits.{bit_in}

-- a shift to the right takes a place from the one at this distance before it
pub bit_in-shr : (y d p : ℕ) → p < 64 → d ≤ p → bit_in (y / 2 ^ d) p ≡ bit_in y (p - d)
bit_in-shr y d p within after =
    get_or-bits_of 64 (y / 2 ^ d) p within
    ∙ ap (λ (q : ℕ). (q % 2) == 1) (shr-shr y d (63 - p))
    ∙ ap (λ (k : ℕ). bit_at y k == 1) (omega arith)
    ∙ sym (get_or-bits_of 64 y (p - d) (omega arith))

-- a shift to the left takes a place from the one at this distance after it
pub bit_in-shl : (x d p : ℕ) → d < 64 → p < 64 → bit_in (x * 2 ^ d % 2 ^ 64) p ≡ bit_in x (p + d)
bit_in-shl x d p small within =
    let m : ℕ = 64 - d in
    let shifted : bits_of (m + d) (x * 2 ^ d % 2 ^ (m + d)) ≡ bits_of m x ++ zeros d = bits_of-shl m d x in
    let size : length (bits_of m x) ≡ m = length-bits_of m x in
    let whole : m + d ≡ 64 = omega arith in
    let here : bits_of 64 (x * 2 ^ d % 2 ^ 64) ≡ bits_of m x ++ zeros d = rw whole at shifted in
    ap (λ (bits : List Bool). get_or bits p false) here
    ∙ elim (cases_lt p m) [
      | inl low ↦
          get_or_append_left (bits_of m x) (zeros d) false p (omega arith)
          ∙ get_or-bits_of m x p low
          ∙ ap (λ (k : ℕ). bit_at x k == 1) (omega arith)
          ∙ sym (get_or-bits_of 64 x (p + d) (omega arith))
      | inr high ↦
          get_or-append_right (bits_of m x) (zeros d) m p false size high
          ∙ get_or-replicate d (p - m) false false (omega arith)
          ∙ sym (get_or_past (bits_of_word x) (p + d) false (omega (arith, length-bits_of 64 x)))
    ]

-- no word has a bit past its last
pub bit_in-past : (x p : ℕ) → 64 ≤ p → bit_in x p ≡ false
bit_in-past x p past = get_or_past (bits_of_word x) p false (omega (arith, length-bits_of 64 x))

-- a bit of words, one after another, stands in a word, at a place
pub bit_of_words-at : (words : List ℕ) (b : ℕ)
    → get_or (bits_of_slice words) b false ≡ bit_in (get_or words (b / 64) 0) (b % 64)
bit_of_words-at [] b =
    sym (get_or-bits_of 64 0 (b % 64) (omega arith) ∙ ap (λ (k : ℕ). k == 1) (bit_at-zero (63 - b % 64)))
bit_of_words-at (word ∷ words) b =
    elim (cases_lt b 64) [
      | inl low ↦
          let lane : b / 64 ≡ 0 = omega arith in
          let place : b % 64 ≡ b = omega arith in
          get_or_append_left (bits_of_word word) _ false b (omega (arith, length-bits_of 64 word))
          ∙ ap₂ (λ (l p : ℕ). bit_in (get_or (word ∷ words) l 0) p) (sym lane) (sym place)
      | inr high ↦
          let lane : b / 64 ≡ suc ((b - 64) / 64) = omega arith in
          let place : b % 64 ≡ (b - 64) % 64 = omega arith in
          get_or-append_right (bits_of_word word) _ 64 b false (length-bits_of 64 word) high
          ∙ bit_of_words-at words (b - 64)
          ∙ ap₂ (λ (l p : ℕ). bit_in (get_or (word ∷ words) l 0) p) (sym lane) (sym place)
    ]
