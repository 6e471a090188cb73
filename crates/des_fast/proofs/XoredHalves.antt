-- The halves of the xor of two blocks are the xors of their halves.
use Rattle.std.proofs.Common.{◌≡◌, ℕ, ◌<◌, List, Bool, [], ◌∷◌, ◌++◌, length, take, drop, get_or, bit_xor, refl, ap, ap₂, sym, ◌∙◌, arith}
use Rattle.des.specs.Bits.{bits_of, bits_of_bytes, select, xor_bits}
use Rattle.des.specs.Cbc.{xor_blocks}
use Rattle.des.specs.Tables.{initial_permutation}
use Rattle.des.specs.Laws.BitLists.{length-bits_of_bytes}
use Rattle.des.proofs.BitParts.{bits_of-xor}
use Rattle.des.proofs.LinearWords.{select-xor_bits}
use Rattle.des.proofs.XoredBlocks.{length-xor_blocks}
use Rattle.des_fast.specs.Groups.{half_of}
use Rattle.des_fast.specs.HalfBlocks.{first_halves}
use Rattle.des_fast.specs.SideBySide.{AreExpansions, AreHalvesOf}
use Rattle.des_fast.specs.Slices.{InEachBlock}
use Rattle.des_fast.proofs.GroupWords.{half_of-xor}
use Rattle.des_fast.proofs.HalfExpansions.{IsExpansion-xor}

bits_of_bytes-xor : (block other : List ℕ) → length block ≡ length other
    → bits_of_bytes (xor_blocks block other) ≡ xor_bits (bits_of_bytes block) (bits_of_bytes other)
unfolding bits_of_bytes xor_blocks bits_of xor_bits
bits_of_bytes-xor [] [] same = refl
bits_of_bytes-xor (byte ∷ bytes) [] same = absurd (omega arith)
bits_of_bytes-xor [] (other ∷ others) same = absurd (omega arith)
bits_of_bytes-xor (byte ∷ bytes) (other ∷ others) same =
    ap₂ ◌++◌ (bits_of-xor 8 byte other) (bits_of_bytes-xor bytes others (omega arith))

-- two halves, each xored with another
abbrev xored : List Bool × List Bool → List Bool × List Bool → List Bool × List Bool
xored halves others = (xor_bits halves.0 others.0, xor_bits halves.1 others.1)

first_halves-xor : (block other : List ℕ) → length block ≡ length other
    → first_halves (xor_blocks block other) ≡ xored (first_halves block) (first_halves other)
unfolding select
first_halves-xor block other same =
    let x : List Bool = bits_of_bytes block in
    let y : List Bool = bits_of_bytes other in
    let size : length x ≡ length y = omega (arith, length-bits_of_bytes block, length-bits_of_bytes other) in
    ap (λ (bits : List Bool). (take 32 (select initial_permutation bits), drop 32 (select initial_permutation bits)))
    (bits_of_bytes-xor block other same)
    ∙ ap₂ (λ (l r : List Bool). (l, r)) (select-xor_bits (take 32 initial_permutation) x y size)
    (select-xor_bits (drop 32 initial_permutation) x y size)

module _ {A : Type 0} (blocks : ℕ) (word : ℕ → A → ℕ) where
  -- the words are the xors of others
  abbrev AreXored : A → A → A → Type 0
  AreXored left right next = InEachBlock blocks (λ b. word b next ≡ bit_xor (word b left) (word b right))

  -- those of expansions are expansions
  pub AreExpansions-xor : (left right next : A) → AreXored left right next → AreExpansions blocks word left
      → AreExpansions blocks word right → AreExpansions blocks word next
  AreExpansions-xor left right next is is_left is_right b within =
      rw (is b within) (IsExpansion-xor _ _ (is_left b within) (is_right b within))

  -- those of the halves of a block and of another are the halves of their xor
  pub AreHalvesOf-xor : (block other : List ℕ) (halves others nexts : A × A) → 0 < blocks → length block ≡ 8
      → InEachBlock blocks (λ b. (half_of (word b halves.0), half_of (word b halves.1)) ≡ first_halves (get_or (block ∷ []) b []))
      → AreHalvesOf word other others → AreXored halves.0 others.0 nexts.0 → AreXored halves.1 others.1 nexts.1
      → AreHalvesOf word (xor_blocks block other) nexts
  AreHalvesOf-xor block other halves others nexts one is_block holds other_holds left right =
      let same : length block ≡ length other = is_block ∙ sym other_holds.count in record {
        count = length-xor_blocks block other same ∙ is_block;
        first = ap₂ (λ (l r : List Bool). (l, r)) (ap half_of (left 0 one) ∙ half_of-xor _ _) (ap half_of (right 0 one) ∙ half_of-xor _ _)
            ∙ ap₂ xored (holds 0 one) other_holds.first
            ∙ sym (first_halves-xor block other same);
      }
