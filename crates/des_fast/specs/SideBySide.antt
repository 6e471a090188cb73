-- Rounds of blocks side by side, and the order of their round keys.
use Rattle.std.specs.Prelude.{◌≡◌, ℕ, List, Bool, true, false, length, reverse, slice_index_or, bit_xor}
use Rattle.des.specs.Bits.{select}
use Rattle.des.specs.Tables.{permutation}
use Rattle.des.specs.CipherFunction.{substitute}
use Rattle.des_fast.specs.Slices.{InEachBlock}
use Rattle.des.specs.declared.tdes.passes.Pass.{Pass}
use Rattle.des_fast.specs.declared.single.Des.{Des}
use Rattle.des_fast.specs.Groups.{IsExpansion, bits_of_groups, half_of}
use Rattle.des_fast.specs.HalfBlocks.{first_halves, round_keys_of}

-- the words of all blocks are expansions of half blocks
abbrev pub AreExpansions : {A : Type 0} → ℕ → (ℕ → A → ℕ) → A → Type 0
AreExpansions blocks word groups = InEachBlock blocks (λ b. IsExpansion (word b groups))

-- the next word is the left one, xor the expansion of P of the substitution of the groups in the right one
pub record IsSubstitutedInto (left right next : ℕ) : Type 0 where
  pub change : ℕ
  pub joined : next ≡ bit_xor left change
  pub expansion : IsExpansion change
  pub substituted : half_of change ≡ select permutation (substitute (bits_of_groups right))

-- round keys in the order of enciphering, or of deciphering
abbrev pub in_direction : {X : Type 0} → Bool → List X → List X
in_direction false keys = keys
in_direction true keys = reverse keys

-- the round keys of a pass, in its order
abbrev pub keys_of : {W : Type 0} → Pass (Des W) → List (List Bool)
keys_of pass = in_direction pass.deciphers (round_keys_of pass.cipher.now.schedule.round_keys)

-- the first words of a pair hold the halves that the rounds of a block of eight bytes begin with
pub record AreHalvesOf {A : Type 0} (word : ℕ → A → ℕ) (block : List ℕ) (halves : A × A) : Type 0 where
  pub count : length block ≡ 8
  pub first : (half_of (word 0 halves.0), half_of (word 0 halves.1)) ≡ first_halves block

-- the word of a block in a vector that has one word of each
abbrev pub lane : ℕ → List ℕ → ℕ
lane b words = slice_index_or words b 0
