-- Partners by words: the words that hold the halves C and D of two keys tell whether the keys are partners.
use Rattle.std.proofs.Common.{◌≡◌, ◌↔◌, ℕ, ◌^◌, ◌<◌, List, ◌++◌, Bool, length, take, drop, slice_index, sym, ap, ap₂, ◌∙◌, arith, take_at, drop_at, take-append-drop}
use Rattle.std.specs.Int.{w64, from_be_bytes}
use Rattle.std.proofs.lemmas.List.{append_cancel_right}
use Rattle.des.specs.Bits.{bits_of_word, bits_of_bytes, number_of, select, zeros}
use Rattle.des.specs.Blocks.{IsKey}
use Rattle.des.specs.Tables.{permuted_choice_1}
use Rattle.des.specs.KeySchedule.{rotate, c_half, d_half}
use Rattle.des.specs.KeyHalves.{ArePartners}
use Rattle.des.specs.Laws.BitLists.{number_of-bits_of_word, bits_of_bytes-from_be}
use Rattle.des.specs.Laws.BlockBits.{slice_index-lt}
use Rattle.des.specs.Laws.ComplementRounds.{length-rotate}
use Rattle.des.proofs.ByteArrays.{IsKey-array}
use Rattle.des.proofs.Rotation.{rotate-rotate}
use Rattle.des.proofs.RoundKeys.{length-c_half, length-d_half}

-- the word holds two halves of 28 bits, in its first 56 bits
record HoldsHalves (word : ℕ) (c d : List Bool) : Type 0 where
  pub fits : word < 2 ^ 64
  pub c_size : length c ≡ 28
  pub d_size : length d ≡ 28
  pub bits : bits_of_word word ≡ (c ++ d) ++ zeros 8

-- permuted choice 1 of a key is its halves
HoldsHalves-permuted_choice_1 : (key : List ℕ) (key_word word : ℕ) → IsKey 8 key → key_word ≡ from_be_bytes w64 key
    → word < 2 ^ 64 → bits_of_word word ≡ select permuted_choice_1 (bits_of_word key_word) ++ zeros 8
    → HoldsHalves word (c_half (bits_of_bytes key)) (d_half (bits_of_bytes key))
unfolding c_half d_half
HoldsHalves-permuted_choice_1 key key_word word is_key same fits chosen = record {
  fits = fits;
  c_size = length-c_half (bits_of_bytes key);
  d_size = length-d_half (bits_of_bytes key);
  bits = rw (bits_of_bytes-from_be key is_key.0 (slice_index-lt key is_key.1), ← same, take-append-drop) chosen;
}

-- the one word holds the halves of the other, each rotated left by one
abbrev Rotates : ℕ → ℕ → Type 0
Rotates word once =
    (c d : List Bool) → length c ≡ 28 → length d ≡ 28 → bits_of_word word ≡ (c ++ d) ++ zeros 8
    → bits_of_word once ≡ (rotate c 1 ++ rotate d 1) ++ zeros 8

HoldsHalves-rotated : {word : ℕ} {c d : List Bool} (once : ℕ) → HoldsHalves word c d → once < 2 ^ 64 → Rotates word once
    → HoldsHalves once (rotate c 1) (rotate d 1)
HoldsHalves-rotated {word} {c} {d} once holds fits rotates = record {
  fits = fits;
  c_size = length-rotate c 1 ∙ holds.c_size;
  d_size = length-rotate d 1 ∙ holds.d_size;
  bits = rotates c d holds.c_size holds.d_size holds.bits;
}

-- words are equal if their bits are
same_word : (a b : ℕ) → a < 2 ^ 64 → b < 2 ^ 64 → bits_of_word a ≡ bits_of_word b → a ≡ b
same_word a b a_small b_small same =
    sym (number_of-bits_of_word a a_small) ∙ ap number_of same ∙ number_of-bits_of_word b b_small

-- two words that hold halves are equal exactly if the halves are
same_halves : {a b : ℕ} {c d c_other d_other : List Bool} → HoldsHalves a c d → HoldsHalves b c_other d_other
    → (a ≡ b) ↔ ((c ≡ c_other) × (d ≡ d_other))
same_halves {a} {b} {c} {d} {c_other} {d_other} first second = (
  λ same.
      let whole : (c ++ d) ++ zeros 8 ≡ (c_other ++ d_other) ++ zeros 8 =
      sym first.bits ∙ ap bits_of_word same ∙ second.bits in
      let both : c ++ d ≡ c_other ++ d_other = append_cancel_right (c ++ d) (c_other ++ d_other) (zeros 8) whole in (
        sym (take_at c d 28 first.c_size) ∙ ap (take 28) both ∙ take_at c_other d_other 28 second.c_size,
        sym (drop_at c d 28 first.c_size) ∙ ap (drop 28) both ∙ drop_at c_other d_other 28 second.c_size,
      ),
  λ same. same_word a b first.fits second.fits
      (first.bits ∙ ap₂ (λ (x y : List Bool). (x ++ y) ++ zeros 8) same.0 same.1 ∙ sym second.bits),
)

-- the words of the halves of two keys of eight bytes, and those of the first rotated by one and by one more, tell whether
-- the second key is the partner of the first
pub ArePartners-by_words : (key partner : List ℕ) (key_word partner_word halves other once twice : ℕ)
    → length key ≡ 8 → length partner ≡ 8 → ((i : ℕ) → slice_index key i < 256)
    → ((i : ℕ) → slice_index partner i < 256)
    → key_word ≡ from_be_bytes w64 key → partner_word ≡ from_be_bytes w64 partner
    → halves < 2 ^ 64 → once < 2 ^ 64 → twice < 2 ^ 64 → other < 2 ^ 64
    → bits_of_word halves ≡ select permuted_choice_1 (bits_of_word key_word) ++ zeros 8
    → bits_of_word other ≡ select permuted_choice_1 (bits_of_word partner_word) ++ zeros 8
    → Rotates halves once → Rotates once twice
    → IsKey 8 key × IsKey 8 partner × (ArePartners key partner ↔ ((twice ≡ halves) × (other ≡ once)))
ArePartners-by_words key partner key_word partner_word halves other once twice eight partner_eight small partner_small
    key_same partner_same
    halves_small once_small twice_small other_small halves_chosen other_chosen rotates_once rotates_twice =
    let is_key = IsKey-array 8 key eight small in
    let partner_is_key = IsKey-array 8 partner partner_eight partner_small in
    let holds = HoldsHalves-permuted_choice_1 key key_word halves is_key key_same halves_small halves_chosen in
    let holds_other =
    HoldsHalves-permuted_choice_1 partner partner_word other partner_is_key partner_same other_small other_chosen in
    let holds_once = HoldsHalves-rotated once holds once_small rotates_once in
    let c_twice = rotate-rotate 1 1 (c_half (bits_of_bytes key)) (omega (arith, holds.c_size)) in
    let d_twice = rotate-rotate 1 1 (d_half (bits_of_bytes key)) (omega (arith, holds.d_size)) in
    let by_two = same_halves (HoldsHalves-rotated twice holds_once twice_small rotates_twice) holds in
    let by_one = same_halves holds_other holds_once in (
      is_key,
      partner_is_key,
      (
        λ partners. (
          by_two.1 (c_twice ∙ partners.repeats.0, d_twice ∙ partners.repeats.1),
          by_one.1 (partners.c_rotated, partners.d_rotated),
        ),
        λ same. record {
          repeats = (sym c_twice ∙ (by_two.0 same.0).0, sym d_twice ∙ (by_two.0 same.0).1);
          c_rotated = (by_one.0 same.1).0;
          d_rotated = (by_one.0 same.1).1;
        },
      ),
    )
