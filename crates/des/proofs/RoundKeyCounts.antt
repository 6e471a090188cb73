-- How many different round keys a key has: one, two, four or at most four, by how its halves repeat.
use Rattle.std.proofs.Common.{◌≡◌, ◌↔◌, ℕ, suc, ◌*◌, ◌%◌, ◌^◌, ◌<◌, ◌≤◌, ◌==◌, ◌&&◌, inl, inr, List, ◌∷◌, ◌++◌, Bool, true, false, map, refl, sym, ap, ◌∙◌, arith, take, replicate, mul-suc}
use Rattle.std.specs.Prelude.{nat_eq}
use Rattle.std.specs.List.{All, range_with_len}
use Rattle.std.specs.Set.{distinct_count}
use Rattle.std.specs.Cmp.Lexicographic.{pointwise}
use Rattle.std.proofs.Math.Bool.{beq}
use Rattle.std.proofs.lemmas.Simd.{map-map}
use Rattle.std.proofs.lemmas.List.{map-id, length-take-le}
use Rattle.std.proofs.lemmas.List.Folds.{map_fixed}
use Rattle.std.proofs.lemmas.Bool.{eqb-true, and_parts, cases_Bool}
use Rattle.des.specs.Bits.{select, number_of, bits_of_word, zeros}
use Rattle.des.specs.KeySchedule.{c_half, d_half, rotate, key_schedule}
use Rattle.des.specs.RoundKeyWords.{HoldRoundKeys, round_keys_of}
use Rattle.des.specs.KeyHalves.{IsListedHalf}
use Rattle.des.specs.Laws.BitLists.{number_of-bits_of_word}
use Rattle.des.specs.Laws.KeptRoundKeys.{round_keys_of-HoldRoundKeys}
use Rattle.des.proofs.RoundKeys.{length-c_half, length-d_half}
use Rattle.des.proofs.DistinctCounts.{count_of, distinct_count-sum, count_of-pos, count_of-map, copies_of_one}
use Rattle.des.proofs.RoundKeyPlaces.{key_at, shifts, schedule_of_halves, key_schedule-halves}
use Rattle.des.proofs.ConstantHalves.{AreUnchanged, constant_halves}
use Rattle.des.proofs.Repeating.{repeated, repeated_from_rotate, from_values}
use Rattle.des.proofs.HalfPatterns.{at_all_patterns, at_listed_halves, same_bits}

-- the word that holds a round key
abbrev word_of : List Bool → ℕ
word_of round_key = number_of (round_key ++ zeros 16)

-- whether rotation by two leaves both halves unchanged
abbrev are_unchanged : List Bool → List Bool → Bool
are_unchanged c d = pointwise beq (rotate c 2) c && pointwise beq (rotate d 2) d

-- whether four different words hold the round keys that halves give, if they are not unchanged
abbrev are_four : List Bool → List Bool → Bool
are_four c d =
    elim (are_unchanged c d) [
      | true ↦ true
      | false ↦ count_of (map word_of (schedule_of_halves c d)) == 4
    ]

-- so it is of each two patterns
patterns_pass : at_all_patterns are_four ≡ true
unfolding rotate select number_of
patterns_pass = refl

-- the round keys that halves give are as those at the remainders of the shifts by n
abbrev AreByRemainders : ℕ → List Bool → List Bool → Type 0
AreByRemainders n c d = schedule_of_halves c d ≡ map (key_at c d) (map (λ m. m % n) shifts)

-- the words that hold the round keys of a key
module _ (words : List ℕ) (key : List Bool) (small : All (λ word. word < 2 ^ 64) words)
    (kept : HoldRoundKeys words key) where
  -- they are the words of the round keys that its halves give
  made : words ≡ map word_of (schedule_of_halves (c_half key) (d_half key))
  made =
      sym (map_fixed (λ word. number_of (bits_of_word word)) words
      (λ k d within. number_of-bits_of_word _ (small k d within)))
      ∙ sym (map-map number_of bits_of_word words)
      ∙ ap (map number_of) kept
      ∙ map-map number_of (λ round_key. round_key ++ zeros 16) (key_schedule key)
      ∙ ap (map word_of) (key_schedule-halves key)

  -- as many are different
  count : distinct_count nat_eq words ≡ count_of (map word_of (schedule_of_halves (c_half key) (d_half key)))
  count = distinct_count-sum words ∙ ap count_of made

  -- there is at least one
  count-pos : 1 ≤ distinct_count nat_eq words
  count-pos = rw count (count_of-pos (map word_of (schedule_of_halves (c_half key) (d_half key))) (omega arith))

  -- if there is one, the halves are unchanged by rotation by one
  constant_from_one : distinct_count nat_eq words ≡ 1 → AreUnchanged 1 (c_half key) (d_half key)
  unfolding round_keys_of
  constant_from_one one =
      let first : ℕ = word_of (key_at (c_half key) (d_half key) 1) in
      let copies : words ≡ replicate 16 first =
      made ∙ ap (λ rest. first ∷ rest) (copies_of_one first _ (sym count ∙ one)) in
      let same : schedule_of_halves (c_half key) (d_half key) ≡ replicate 16 (take 48 (bits_of_word first)) =
      sym (key_schedule-halves key) ∙ sym (round_keys_of-HoldRoundKeys words key kept) ∙ ap round_keys_of copies in
      constant_halves _ (c_half key) (d_half key) (length-c_half key) (length-d_half key) same

  -- there are at most as many as there are remainders, if the halves are their first n bits 1 + times times and
  -- any round keys so given are by remainders
  count-le : (n times : ℕ) → n * suc times ≡ 28
      → ((c d : ℕ → Bool) → AreByRemainders n (repeated (λ b. b) (suc times) (map c (range_with_len 0 n)))
      (repeated (λ b. b) (suc times) (map d (range_with_len 0 n))))
      → AreUnchanged n (c_half key) (d_half key) → distinct_count nat_eq words ≤ count_of (map (λ m. m % n) shifts)
  count-le n times size each same =
      let c : List Bool = c_half key in
      let d : List Bool = d_half key in
      let within : n ≤ 28 = omega (arith, mul-suc n times) in
      let whole : List Bool → List Bool = repeated (λ b. b) (suc times) in
      let by_remainders : AreByRemainders n (whole (take n c)) (whole (take n d)) =
      from_values n (λ c. AreByRemainders n (whole c) (whole (take n d)))
      (λ c. from_values n (λ d. AreByRemainders n (whole (map c (range_with_len 0 n))) (whole d)) (each c) (take n d)
      (length-take-le n d (omega (arith, length-d_half key)))) (take n c)
      (length-take-le n c (omega (arith, length-c_half key))) in
      let c_repeats : c ≡ whole (take n c) =
      repeated_from_rotate (λ b. b) n times c (length-c_half key ∙ sym size) (same.0 ∙ sym (map-id c)) in
      let d_repeats : d ≡ whole (take n d) =
      repeated_from_rotate (λ b. b) n times d (length-d_half key ∙ sym size) (same.1 ∙ sym (map-id d)) in
      let here : AreByRemainders n c d = rw (c_repeats, d_repeats) by_remainders in
      let rests : List ℕ = map (λ m. m % n) shifts in
      let word : ℕ → ℕ = λ m. word_of (key_at c d m) in
      let same_count : distinct_count nat_eq words ≡ count_of (map word rests) =
      count ∙ ap (λ keys. count_of (map word_of keys)) here ∙ ap count_of (map-map word_of (key_at c d) rests) in
      rw same_count (count_of-map word rests)

  -- there is one exactly if the halves are unchanged by rotation by one
  pub one_round_key : (distinct_count nat_eq words ≡ 1) ↔ AreUnchanged 1 (c_half key) (d_half key)
  unfolding rotate select
  one_round_key = (constant_from_one, λ same. omega (arith, count-pos, count-le 1 27 refl (λ c d. refl) same))

  -- there are two if they are unchanged by rotation by two, but not both by one
  pub two_round_keys : rotate (c_half key) 2 ≡ c_half key → rotate (d_half key) 2 ≡ d_half key
      → ¬ (AreUnchanged 1 (c_half key) (d_half key)) → distinct_count nat_eq words ≡ 2
  unfolding rotate select
  two_round_keys c_same d_same more =
      let not_one : ¬ (distinct_count nat_eq words ≡ 1) = λ one. more (constant_from_one one) in
      omega (arith, count-pos, not_one, count-le 2 13 refl (λ c d. refl) (c_same, d_same))

  -- there are at most four if they are unchanged by rotation by four
  pub four_round_keys-le : rotate (c_half key) 4 ≡ c_half key → rotate (d_half key) 4 ≡ d_half key
      → distinct_count nat_eq words ≤ 4
  unfolding rotate select
  four_round_keys-le c_same d_same = count-le 4 6 refl (λ c d. refl) (c_same, d_same)

  -- there are four if rotation by two leaves each half unchanged or turns it into its complement, but not both
  -- unchanged
  pub four_round_keys : IsListedHalf (c_half key) → IsListedHalf (d_half key)
      → ¬ (AreUnchanged 2 (c_half key) (d_half key)) → distinct_count nat_eq words ≡ 4
  four_round_keys c_listed d_listed more =
      let c : List Bool = c_half key in
      let d : List Bool = d_half key in
      let passes = at_listed_halves are_four patterns_pass c d (length-c_half key) (length-d_half key) c_listed d_listed in
      elim (cases_Bool (are_unchanged c d)) [
        | inl unchanged ↦
            let same = and_parts _ _ unchanged in
            absurd (more (same_bits (rotate c 2) c same.0, same_bits (rotate d 2) d same.1))
        | inr changed ↦ count ∙ eqb-true (count_of (map word_of (schedule_of_halves c d))) 4 (rw (are_four, changed) at passes)
      ]
