-- The terms of E, of permuted choice 2 and of P are linear maps of a word, and make these selections.
use Rattle.std.proofs.Common.{◌≡◌, ℕ, ◌-◌, ◌%◌, ◌^◌, ◌<◌, ◌≤◌, ◌++◌, take, bit_and, refl, ap, sym, ◌∙◌, arith}
use Rattle.std.proofs.lemmas.Nat.{shr_split}
use Rattle.std.proofs.lemmas.Nat.Bits.{and_high_mask}
use Rattle.des.specs.Bits.{bits_of, bits_of_word, zeros, select}
use Rattle.des.specs.Tables.{expansion, permuted_choice_2, permutation}
use Rattle.des.specs.TermForms.{term_form_of_e, term_form_of_pc2, term_form_of_p}
use Rattle.des.proofs.Places.{select-take}
use Rattle.des.proofs.LinearWords.{IsLinear-id, IsLinear-shl, IsLinear-shr, select-from_units}
use Rattle.des.proofs.LinearUnder.{IsLinearUnder, IsLinearUnder-mask, IsLinearUnder-shl, IsLinearUnder-shr, IsLinearUnder-rotate, IsLinearUnder-or}
use Rattle.des.proofs.Gathers.{IsLinearUnder-gathered}

-- a word whose last k bits are zero is under the mask of the others
high_mask-same : (k x : ℕ) → k ≤ 64 → x < 2 ^ 64 → x % 2 ^ k ≡ 0 → bit_and x (2 ^ 64 - 2 ^ k) ≡ x
high_mask-same k x inside fits clear = and_high_mask 64 k inside x fits ∙ omega (arith, clear, shr_split x k)

-- the terms of E are a linear map of a word
linear-e : IsLinearUnder 0xffffffffffff0000 term_form_of_e
unfolding term_form_of_e
linear-e =
    IsLinearUnder-or (IsLinearUnder-or (IsLinearUnder-or (IsLinearUnder-or (IsLinearUnder-or
    (IsLinearUnder-or (IsLinearUnder-or (IsLinearUnder-or (IsLinearUnder-or
    (IsLinearUnder-mask 0x8000000000000000 (IsLinear-shl 31 IsLinear-id))
    (IsLinearUnder-mask 0x7c00000000000000 (IsLinear-shr 1 IsLinear-id)) refl)
    (IsLinearUnder-mask 0x03f0000000000000 (IsLinear-shr 3 IsLinear-id)) refl)
    (IsLinearUnder-mask 0x000fc00000000000 (IsLinear-shr 5 IsLinear-id)) refl)
    (IsLinearUnder-mask 0x00003f0000000000 (IsLinear-shr 7 IsLinear-id)) refl)
    (IsLinearUnder-mask 0x000000fc00000000 (IsLinear-shr 9 IsLinear-id)) refl)
    (IsLinearUnder-mask 0x00000003f0000000 (IsLinear-shr 11 IsLinear-id)) refl)
    (IsLinearUnder-mask 0x000000000fc00000 (IsLinear-shr 13 IsLinear-id)) refl)
    (IsLinearUnder-mask 0x00000000003e0000 (IsLinear-shr 15 IsLinear-id)) refl)
    (IsLinearUnder-mask 0x0000000000010000 (IsLinear-shr 47 IsLinear-id)) refl

-- the terms of a word are the selection of E from its first 32 bits
pub term_form_of_e-select : (half_block : ℕ) → half_block < 2 ^ 64
    → bits_of_word (term_form_of_e half_block) ≡ select expansion (take 32 (bits_of_word half_block)) ++ zeros 16
unfolding term_form_of_e bits_of select
term_form_of_e-select half_block fits =
    select-from_units term_form_of_e expansion 16 linear-e.linear refl half_block fits
    ∙ ap (λ bits. bits ++ zeros 16) (sym (select-take 32 expansion (bits_of_word half_block) refl))

-- the terms of permuted choice 2 are a linear map of the first 56 bits of a word
linear-pc2 : IsLinearUnder 0xffffffffffff0000 (λ x. term_form_of_pc2 (bit_and x 0xffffffffffffff00))
unfolding term_form_of_pc2
linear-pc2 =
    let word = IsLinearUnder-rotate 61 refl (IsLinearUnder-mask 0xffffffffffffff00 IsLinear-id) in
    IsLinearUnder-or (IsLinearUnder-or (IsLinearUnder-or (IsLinearUnder-or (IsLinearUnder-or
    (IsLinearUnder-or (IsLinearUnder-or (IsLinearUnder-or (IsLinearUnder-or
    (IsLinearUnder-shr 7 (IsLinearUnder-mask 0x0021000002000000 word.linear))
    (IsLinearUnder-shl 1 (IsLinearUnder-mask 0x0008020010080000 word.linear)) refl)
    (IsLinearUnder-mask 0x0002200000000000 word.linear) refl)
    (IsLinearUnder-shl 19 (IsLinearUnder-mask 0x0000000000100020 word.linear)) refl)
    (IsLinearUnder-gathered 0x0005312400000011 0x0000000094200201 0xea40100880000000 refl
    (IsLinearUnder-rotate 54 refl word)) refl)
    (IsLinearUnder-gathered 0x0022110000012001 0x0001000000610006 0x1185004400000000 refl
    (IsLinearUnder-rotate 7 refl word)) refl)
    (IsLinearUnder-gathered 0x0000520040200002 0x00000080000000c1 0x0028811000200000 refl
    (IsLinearUnder-rotate 6 refl word)) refl)
    (IsLinearUnder-gathered 0x01000004c0011100 0x0000000000004284 0x0400082244400000 refl word) refl)
    (IsLinearUnder-gathered 0x0000000000820280 0x0000000000089001 0x0000000110880000 refl
    (IsLinearUnder-rotate 60 refl word)) refl)
    (IsLinearUnder-gathered 0x0000000000024084 0x0000000002040005 0x000000000a030000 refl
    (IsLinearUnder-rotate 49 refl word)) refl

-- the terms of a word whose last 8 bits are zero are permuted choice 2
pub term_form_of_pc2-select : (halves : ℕ) → halves < 2 ^ 64 → halves % 2 ^ 8 ≡ 0
    → bits_of_word (term_form_of_pc2 halves) ≡ select permuted_choice_2 (take 56 (bits_of_word halves)) ++ zeros 16
unfolding term_form_of_pc2 bits_of select
term_form_of_pc2-select halves fits clear =
    ap (λ x. bits_of_word (term_form_of_pc2 x)) (sym (high_mask-same 8 halves (omega arith) fits clear))
    ∙ select-from_units (λ x. term_form_of_pc2 (bit_and x 0xffffffffffffff00)) permuted_choice_2 16 linear-pc2.linear
    refl halves fits
    ∙ ap (λ bits. bits ++ zeros 16) (sym (select-take 56 permuted_choice_2 (bits_of_word halves) refl))

-- the terms of the permutation P are a linear map of the first 32 bits of a word
linear-p : IsLinearUnder 0xffffffff00000000 (λ x. term_form_of_p (bit_and x 0xffffffff00000000))
unfolding term_form_of_p
linear-p =
    let word = IsLinearUnder-rotate 44 refl (IsLinearUnder-mask 0xffffffff00000000 IsLinear-id) in
    IsLinearUnder-or (IsLinearUnder-or (IsLinearUnder-or (IsLinearUnder-or (IsLinearUnder-or
    (IsLinearUnder-or (IsLinearUnder-or (IsLinearUnder-or (IsLinearUnder-or
    (IsLinearUnder-shl 32 (IsLinearUnder-mask 0x0000000000200000 word.linear))
    (IsLinearUnder-shl 13 (IsLinearUnder-mask 0x0000000000480000 word.linear)) refl)
    (IsLinearUnder-shl 12 (IsLinearUnder-mask 0x0000088000000000 word.linear)) refl)
    (IsLinearUnder-shl 25 (IsLinearUnder-mask 0x0000002020120000 word.linear)) refl)
    (IsLinearUnder-shl 14 (IsLinearUnder-mask 0x0000000442000000 word.linear)) refl)
    (IsLinearUnder-shl 37 (IsLinearUnder-mask 0x0000000001800000 word.linear)) refl)
    (IsLinearUnder-shl 24 (IsLinearUnder-mask 0x0000000004000000 word.linear)) refl)
    (IsLinearUnder-gathered 0x0000020280015000 0x0000020080800083 0x02000a6400000000 refl word) refl)
    (IsLinearUnder-gathered 0x01001400000000aa 0x0000210210008081 0x0902c01200000000 refl
    (IsLinearUnder-rotate 29 refl word)) refl)
    (IsLinearUnder-gathered 0x0000000910040000 0x0000000c04000020 0x8410010000000000 refl word) refl

-- the terms of a word whose last 32 bits are zero are the permutation P
pub term_form_of_p-select : (input : ℕ) → input < 2 ^ 64 → input % 2 ^ 32 ≡ 0
    → bits_of_word (term_form_of_p input) ≡ select permutation (take 32 (bits_of_word input)) ++ zeros 32
unfolding term_form_of_p bits_of select
term_form_of_p-select input fits clear =
    ap (λ x. bits_of_word (term_form_of_p x)) (sym (high_mask-same 32 input (omega arith) fits clear))
    ∙ select-from_units (λ x. term_form_of_p (bit_and x 0xffffffff00000000)) permutation 32 linear-p.linear refl input
    fits
    ∙ ap (λ bits. bits ++ zeros 32) (sym (select-take 32 permutation (bits_of_word input) refl))
