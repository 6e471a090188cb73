-- The two steps of the transposition: the bytes of every eighth row, and the bits of each byte.
use Rattle.std.proofs.Common.{◌≡◌, ℕ, ◌+◌, ◌*◌, ◌/◌, ◌%◌, ◌<◌, ◌≤◌, ◌≢◌, Bool, false, List, [], ◌∷◌, ◌++◌, map, get_or, refl, ap, ap₂, sym, ◌∙◌, arith, inl, inr}
use Rattle.std.specs.List.{range_with_len}
use Rattle.std.proofs.lemmas.Bool.{cases_eq}
use Rattle.std.proofs.lemmas.List.FromFn.{fill_by_all}
use Rattle.des.specs.Bits.{select}
use Rattle.des.specs.Tables.{final_permutation}
use Rattle.des.specs.Laws.Selections.{length-select}
use Rattle.des_fast.specs.Slices.{InEachBlock, place_of_block}
use Rattle.des_fast.specs.Transposition.{AreBytesExchanged, AreBitsExchanged, AreBitsTransposed, bits_of_row, bits_of_halves}
use Rattle.des_fast.proofs.BlockRows.{map-same, IsPlaced}

-- ---- the bits of bytes

-- those of the first n bytes are transposed, and the others as they were
abbrev pub AreTransposedBelow : ℕ → (ℕ → List Bool) → (ℕ → List Bool) → ℕ → Type 0
AreTransposedBelow batch rows answer n =
    (m : ℕ) → m < 64 → InEachBlock batch (λ b.
    (m / 8 < n → get_or (answer b) m false ≡ get_or (rows (8 * (b / 8) + m % 8)) (8 * (m / 8) + b % 8) false)
    × (n ≤ m / 8 → get_or (answer b) m false ≡ get_or (rows b) m false))

-- a byte more
pub AreTransposedBelow-more : {A : Type 0} (batch : ℕ) (bit : ℕ → A → Bool) (rows answer next : ℕ → List Bool)
    (eight answered : List A) (i : ℕ) → batch % 64 ≡ 0 → i < 8
    → InEachBlock batch (λ b. (j : ℕ) → j < 8
    → get_or (map (bit b) eight) j false ≡ get_or (answer b) (8 * i + j) false)
    → AreBitsExchanged batch bit eight answered
    → InEachBlock batch (λ b. (j : ℕ) → j < 8
    → get_or (next b) (8 * i + j) false ≡ get_or (map (bit b) answered) j false)
    → InEachBlock batch (λ b. (m : ℕ) → m / 8 ≢ i → get_or (next b) m false ≡ get_or (answer b) m false)
    → AreTransposedBelow batch rows answer i → AreTransposedBelow batch rows next (i + 1)
AreTransposedBelow-more batch bit rows answer next eight answered i whole in_word taken exchanged written kept so_far m
    below b within = (
      λ done. elim (cases_eq (m / 8) i) [
        | inl same ↦
            let c : ℕ = 8 * (b / 8) + m % 8 in
            let n : ℕ = 8 * i + b % 8 in
            let in_batch : c < batch = omega arith in
            ap (λ (k : ℕ). get_or (next b) k false) (omega arith)
            ∙ written b within (m % 8) (omega arith)
            ∙ exchanged (m % 8) (omega arith) b within
            ∙ taken c in_batch (b % 8) (omega arith)
            ∙ (so_far n (omega arith) c in_batch).1 (omega arith)
            ∙ ap (λ (k : ℕ). get_or (rows c) k false) (omega arith)
        | inr other ↦ kept b within m other ∙ (so_far m below b within).0 (omega arith)
      ],
      λ later. kept b within m (λ q. absurd (omega arith)) ∙ (so_far m below b within).1 (omega arith),
    )

-- ---- halfway

-- the bits of the block in word u of row n, where the bytes are transposed and the bits of them are not
abbrev pub bits_halfway : (ℕ → List Bool) → ℕ → ℕ → List Bool
bits_halfway rows n u =
    map (λ p. get_or (rows (64 * u + 8 * (n / 8) + p % 8)) (8 * (p / 8) + n % 8) false) (range_with_len 0 64)

module _ (batch words n u : ℕ) (whole : batch ≡ 64 * words) (in_rows : n < 64) (in_words : u < words) where
  -- the bytes of blocks come from their row
  pub bits_halfway-read : {A : Type 0} (bit : ℕ → A → Bool) (rows : ℕ → List Bool) (eight answered : List A)
      → AreBytesExchanged batch bit eight answered
      → InEachBlock batch (λ b. (j : ℕ) → j < 8
      → get_or (rows b) (8 * j + n % 8) false ≡ get_or (map (bit b) answered) j false)
      → bits_halfway rows n u ≡ bits_of_row bit eight (n / 8) u
  bits_halfway-read bit rows eight answered exchanged written =
      map-same _ (λ p. get_or (map (bit (64 * u + p)) eight) (n / 8) false) 64 (λ p below.
      let c : ℕ = 64 * u + 8 * (n / 8) + p % 8 in
      let in_batch : c < batch = omega arith in
      let place : 64 * (c / 64) + 8 * (p / 8) + c % 8 ≡ 64 * u + p = omega arith in
      let row : c / 8 % 8 ≡ n / 8 = omega arith in
      written c in_batch (p / 8) (omega arith)
      ∙ exchanged (p / 8) (omega arith) c in_batch
      ∙ ap₂ (λ (k i : ℕ). get_or (map (bit k) eight) i false) place row)

  -- and go to it
  pub bits_halfway-written : {A : Type 0} (bit : ℕ → A → Bool) (rows : ℕ → List Bool) (eight answered : List A)
      → InEachBlock batch (λ b. (j : ℕ) → j < 8
      → get_or (map (bit b) eight) j false ≡ get_or (rows b) (8 * j + n % 8) false)
      → AreBytesExchanged batch bit eight answered
      → bits_of_row bit answered (n / 8) u ≡ bits_halfway rows n u
  bits_halfway-written bit rows eight answered taken exchanged =
      map-same (λ p. get_or (map (bit (64 * u + p)) answered) (n / 8) false) _ 64 (λ p below.
      let c : ℕ = 64 * u + 8 * (n / 8) + p % 8 in
      let in_batch : c < batch = omega arith in
      let place : 64 * ((64 * u + p) / 64) + 8 * (n / 8) + (64 * u + p) % 8 ≡ c = omega arith in
      let row : (64 * u + p) / 8 % 8 ≡ p / 8 = omega arith in
      exchanged (n / 8) (omega arith) (64 * u + p) (omega arith)
      ∙ ap₂ (λ (k i : ℕ). get_or (map (bit k) eight) i false) place row
      ∙ taken c in_batch (p / 8) (omega arith))

  -- rows of another number leave them as they are
  pub bits_halfway-kept : (i : ℕ) (rows next : ℕ → List Bool) → n % 8 ≢ i
      → InEachBlock batch (λ b. (m : ℕ) → m % 8 ≢ i → get_or (next b) m false ≡ get_or (rows b) m false)
      → bits_halfway next n u ≡ bits_halfway rows n u
  bits_halfway-kept i rows next other kept =
      map-same _ _ 64 (λ p below.
      kept (64 * u + 8 * (n / 8) + p % 8) (omega arith) (8 * (p / 8) + n % 8) (λ q. other (omega arith)))

  -- the bits of bytes make them the bits at the block's place
  transposed-from : (rows answer : ℕ → List Bool) → AreBitsTransposed batch rows answer → (p : ℕ) → p < 64
      → get_or (answer (64 * u + n)) p false
      ≡ get_or (rows (64 * u + 8 * (n / 8) + p % 8)) (8 * (p / 8) + n % 8) false
  transposed-from rows answer transposed p below =
      transposed p below (64 * u + n) (omega arith)
      ∙ ap₂ (λ (c m : ℕ). get_or (rows c) m false) (omega arith) (omega arith)

  -- and the other way
  transposed-to : (rows answer : ℕ → List Bool) → AreBitsTransposed batch rows answer → (p : ℕ) → p < 64
      → get_or (answer (64 * u + 8 * (n / 8) + p % 8)) (8 * (p / 8) + n % 8) false
      ≡ get_or (rows (64 * u + n)) p false
  transposed-to rows answer transposed p below =
      transposed (8 * (p / 8) + n % 8) (omega arith) (64 * u + 8 * (n / 8) + p % 8) (omega arith)
      ∙ ap₂ (λ (c m : ℕ). get_or (rows c) m false) (omega arith) (omega arith)

-- the bits of block k of halves are those at its place
map-placed : {A : Type 0} (f g : A → Bool) (xs : List A) → ((x : A) → f x ≡ g x) → map f xs ≡ map g xs
map-placed f g [] same = refl
map-placed f g (x ∷ xs) same = ap₂ ◌∷◌ (same x) (map-placed f g xs same)

module _ {A : Type 0} (batch words k : ℕ) (bit place_bit : ℕ → A → Bool) (left right : List A)
    (placed : (b : ℕ) → (slice : A) → bit b slice ≡ place_bit (place_of_block words b) slice)
    (whole : batch ≡ 64 * words) (at : IsPlaced words k) where
  bits_of_halves-placed : bits_of_halves (bit k) left right ≡ bits_of_halves (place_bit (place_of_block words k)) left right
  bits_of_halves-placed =
      ap₂ (λ (l r : List Bool). select final_permutation (l ++ r))
      (map-placed (bit k) (place_bit (place_of_block words k)) left (placed k))
      (map-placed (bit k) (place_bit (place_of_block words k)) right (placed k))

  -- of halves that come from rows halfway
  pub bits_of_halves-halfway : (rows : ℕ → List Bool)
      → AreBitsTransposed batch rows (λ b. bits_of_halves (place_bit b) left right)
      → bits_of_halves (bit k) left right ≡ bits_halfway rows (k / words) (k % words)
  bits_of_halves-halfway rows transposed =
      fill_by_all _ (bits_of_halves (bit k) left right) 64 false (length-select final_permutation _)
      (λ p below.
      ap (λ (bits : List Bool). get_or bits p false) bits_of_halves-placed
      ∙ transposed-from batch words (k / words) (k % words) whole at.row at.lane rows
      (λ b. bits_of_halves (place_bit b) left right) transposed p below)

  -- and of halves from which these come
  pub bits_halfway-halves : (rows : ℕ → List Bool)
      → AreBitsTransposed batch (λ b. bits_of_halves (place_bit b) left right) rows
      → bits_halfway rows (k / words) (k % words) ≡ bits_of_halves (bit k) left right
  bits_halfway-halves rows transposed =
      let bits : List Bool = bits_of_halves (place_bit (place_of_block words k)) left right in
      map-same _ (λ p. get_or bits p false) 64
      (transposed-to batch words (k / words) (k % words) whole at.row at.lane
      (λ b. bits_of_halves (place_bit b) left right) rows transposed)
      ∙ sym (bits_of_halves-placed
      ∙ fill_by_all (λ p. get_or bits p false) bits 64 false (length-select final_permutation _) (λ p below. refl))
