-- Blocks as rows.
use Rattle.std.proofs.Common.{◌≡◌, ℕ, zero, suc, ◌+◌, ◌*◌, ◌/◌, ◌%◌, ◌<◌, ◌≤◌, ◌≢◌, Bool, false, List, [], ◌∷◌, length, map, get_or, w64, refl, ap, ap₂, sym, ◌∙◌, arith, zero-add, inl, inr}
use Rattle.std.specs.Int.{to_le_bytes}
use Rattle.std.proofs.Math.ListN.{set}
use Rattle.std.proofs.Math.Nat.{div-add-mod, div-lt_iff_lt-mul, mod-lt}
use Rattle.std.proofs.lemmas.Bool.{cases_eq}
use Rattle.std.specs.List.{range_with_len}
use Rattle.std.proofs.lemmas.List.{length-set, get_or-map, get_or-set_same, get_or-set_other}
use Rattle.std.proofs.lemmas.List.FromFn.{fill_by_all, length-map-range_with_len, get_or-map-range_with_len}
use Rattle.des.specs.Bits.{bits_of_bytes}
use Rattle.des.specs.Blocks.{block_of_bits}
use Rattle.des_fast.specs.Transposition.{bits_of_lane, bits_of_row}

-- two functions that agree below n give the same lists
pub map-same : (f g : ℕ → Bool) (n : ℕ) → ((m : ℕ) → m < n → f m ≡ g m)
    → map f (range_with_len 0 n) ≡ map g (range_with_len 0 n)
map-same f g n each =
    fill_by_all g (map f (range_with_len 0 n)) n false (length-map-range_with_len f 0 n)
    (λ m below. get_or-map-range_with_len f 0 n m m false below (zero-add m) ∙ each m below)

-- what holds of two words holds of each
pub each_of_two : (P : ℕ → ℕ → Type 0) (x y : ℕ) → P 0 x → P 1 y → (lane : ℕ) → lane < 2
    → P lane (get_or (x ∷ y ∷ []) lane 0)
each_of_two P x y p q zero below = p
each_of_two P x y p q (suc zero) below = q
each_of_two P x y p q (suc (suc lane)) below = absurd (omega arith)

-- the same of four
pub each_of_four : (P : ℕ → ℕ → Type 0) (x y z w : ℕ) → P 0 x → P 1 y → P 2 z → P 3 w
    → (lane : ℕ) → lane < 4 → P lane (get_or (x ∷ y ∷ z ∷ w ∷ []) lane 0)
each_of_four P x y z w p q r s zero below = p
each_of_four P x y z w p q r s (suc zero) below = q
each_of_four P x y z w p q r s (suc (suc zero)) below = r
each_of_four P x y z w p q r s (suc (suc (suc zero))) below = s
each_of_four P x y z w p q r s (suc (suc (suc (suc lane)))) below = absurd (omega arith)

-- the word of a lane has the bytes of its block, one of n side by side after m such rows
abbrev pub HasBlock : List (List ℕ) → ℕ → ℕ → ℕ → ℕ → Type 0
HasBlock blocks n m lane word = to_le_bytes w64 word ≡ get_or blocks (n * m + lane) []

-- the bits of a word of a row
pub bits_of_lane-row : {A : Type 0} (bit : ℕ → A → Bool) (rows : List A) (m lane : ℕ) (d : A) → m < length rows
    → bits_of_lane bit (get_or rows m d) lane ≡ bits_of_row bit rows m lane
bits_of_lane-row bit rows m lane d inside =
    map-same (λ p. bit (64 * lane + p) (get_or rows m d)) (λ p. get_or (map (bit (64 * lane + p)) rows) m false) 64
    (λ p below. sym (get_or-map (bit (64 * lane + p)) rows m d false inside))

-- eight rows, each with a word whose bits are known if the row is the one that is asked for
pub bits_of_row-listed : {A : Type 0} (bit : ℕ → A → Bool) (lane : ℕ) (bits : List Bool) (Is : ℕ → Type 0)
    (r0 r1 r2 r3 r4 r5 r6 r7 : A) → (Is 0 → bits_of_lane bit r0 lane ≡ bits) → (Is 1 → bits_of_lane bit r1 lane ≡ bits)
    → (Is 2 → bits_of_lane bit r2 lane ≡ bits) → (Is 3 → bits_of_lane bit r3 lane ≡ bits)
    → (Is 4 → bits_of_lane bit r4 lane ≡ bits) → (Is 5 → bits_of_lane bit r5 lane ≡ bits)
    → (Is 6 → bits_of_lane bit r6 lane ≡ bits) → (Is 7 → bits_of_lane bit r7 lane ≡ bits)
    → (m : ℕ) → m < 8 → Is m → bits_of_row bit (r0 ∷ r1 ∷ r2 ∷ r3 ∷ r4 ∷ r5 ∷ r6 ∷ r7 ∷ []) m lane ≡ bits
bits_of_row-listed bit lane bits Is r0 r1 r2 r3 r4 r5 r6 r7 is0 is1 is2 is3 is4 is5 is6 is7 m below =
    elim m as (λ k. k < 8 → Is k → bits_of_row bit (r0 ∷ r1 ∷ r2 ∷ r3 ∷ r4 ∷ r5 ∷ r6 ∷ r7 ∷ []) k lane ≡ bits) [
      | zero ↦ λ under. is0
      | suc zero ↦ λ under. is1
      | suc (suc zero) ↦ λ under. is2
      | suc (suc (suc zero)) ↦ λ under. is3
      | suc (suc (suc (suc zero))) ↦ λ under. is4
      | suc (suc (suc (suc (suc zero)))) ↦ λ under. is5
      | suc (suc (suc (suc (suc (suc zero))))) ↦ λ under. is6
      | suc (suc (suc (suc (suc (suc (suc zero)))))) ↦ λ under. is7
      | suc (suc (suc (suc (suc (suc (suc (suc n))))))) ↦ λ under. absurd (omega arith)
    ] below

-- the blocks of the first words of a row are written, n side by side after m such rows, and no other block is
abbrev pub AreWordsWritten : {A : Type 0} → (ℕ → A → Bool) → ℕ → A → ℕ → List (List ℕ) → List (List ℕ) → ℕ → Type 0
AreWordsWritten bit n row m old new count =
    ((k : ℕ) → k / n ≡ m → k % n < count → get_or new k [] ≡ block_of_bits (bits_of_lane bit row (k % n)))
    × (((k : ℕ) → k / n ≢ m → get_or new k [] ≡ get_or old k [])
    × (length new ≡ length old))

-- none is
pub AreWordsWritten-none : {A : Type 0} (bit : ℕ → A → Bool) (n : ℕ) (row : A) (m : ℕ) (old : List (List ℕ))
    → AreWordsWritten bit n row m old old 0
AreWordsWritten-none bit n row m old = (λ k at below. absurd (omega arith), (λ k other. refl, refl))

-- a number by its quotient and its remainder
same-parts : (n k i : ℕ) → k / n ≡ i / n → k % n ≡ i % n → k ≡ i
same-parts n k i quotient remainder =
    sym (div-add-mod k n) ∙ ap₂ (λ (q r : ℕ). n * q + r) quotient remainder ∙ div-add-mod i n

-- one more
pub AreWordsWritten-more : {A : Type 0} (bit : ℕ → A → Bool) (n : ℕ) (row : A) (m : ℕ) (old new : List (List ℕ))
    (count i : ℕ) (block : List ℕ) (word : ℕ)
    → i / n ≡ m → i % n ≡ count → i < length old → bits_of_bytes (to_le_bytes w64 word) ≡ bits_of_lane bit row count
    → block ≡ block_of_bits (bits_of_bytes (to_le_bytes w64 word))
    → AreWordsWritten bit n row m old new count → AreWordsWritten bit n row m old (set new i block) (count + 1)
AreWordsWritten-more bit n row m old new count i block word at_row at_lane inside bits made are =
    let below_end : i < length new = omega (arith, are.1.1) in (
      λ k at below. elim (cases_eq (k % n) count) [
        | inl same ↦
            let here : k ≡ i = same-parts n k i (at ∙ sym at_row) (same ∙ sym at_lane) in
            ap (λ (j : ℕ). get_or (set new i block) j []) here
            ∙ get_or-set_same new i block [] below_end
            ∙ made
            ∙ ap block_of_bits (bits ∙ ap (bits_of_lane bit row) (sym same))
        | inr other ↦
            let elsewhere : k ≢ i = λ q. other (ap (λ (j : ℕ). j % n) q ∙ at_lane) in
            get_or-set_other new i k block [] elsewhere
            ∙ are.0 k at (omega (arith, below, other))
      ],
      (
        λ k other.
            let elsewhere : k ≢ i = λ q. other (ap (λ (j : ℕ). j / n) q ∙ at_row) in
            get_or-set_other new i k block [] elsewhere ∙ are.1.0 k other,
        length-set new i block ∙ are.1.1,
      ),
    )

-- a block's row of 64 and its word of n
pub record IsPlaced (n k : ℕ) : Type 0 where
  pub row : k / n < 64
  pub lane : k % n < n

pub IsPlaced-block : (batch n k : ℕ) → 1 ≤ batch → batch ≡ 64 * n → k < batch → IsPlaced n k
IsPlaced-block batch n k some whole within =
    let words : 1 ≤ n = omega arith in
    record { row = (div-lt_iff_lt-mul words).1 (omega arith); lane = mod-lt k words }
