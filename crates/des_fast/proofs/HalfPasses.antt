-- Passes of DES from the halves of a block: between two passes the final and the initial permutation cancel.
use Rattle.std.proofs.Common.{◌≡◌, ℕ, List, Bool, take, drop, refl, ap, ap₂, sym, ◌∙◌, take_at, drop_at}
use Rattle.des.specs.Bits.{bits_of_bytes, select}
use Rattle.des.specs.Tables.{initial_permutation, final_permutation}
use Rattle.des.specs.Rounds.{after_rounds, swapped, through_rounds, block_by_keys}
use Rattle.des.specs.Laws.Selections.{length-select, select-initial_permutation}
use Rattle.des.specs.Laws.BlockBits.{bits_of_bytes-block_of_bits}
use Rattle.des.specs.Laws.RoundsUndone.{AreHalves, length-swapped}
use Rattle.des_fast.specs.Groups.{half_of, half_positions}
use Rattle.des_fast.specs.HalfBlocks.{first_halves, last_block}

-- two halves after a round for each round key
abbrev pub after : List (List Bool) → List Bool × List Bool → List Bool × List Bool
after keys halves = after_rounds keys halves.0 halves.1

-- each in the place of the other
abbrev turned : List Bool × List Bool → List Bool × List Bool
turned halves = (halves.1, halves.0)

-- what the rounds make of a block, from its halves
pub block_by_keys-halves : (keys : List (List Bool)) (block : List ℕ)
    → block_by_keys keys block ≡ last_block (after keys (first_halves block))
unfolding through_rounds
block_by_keys-halves keys block = refl

-- one pass, from the halves of a block to the block that the last halves make
pub block_by_keys-one : (keys : List (List Bool)) (block answer : List ℕ) (halves : List Bool × List Bool)
    → halves ≡ after keys (first_halves block) → answer ≡ last_block halves → answer ≡ block_by_keys keys block
block_by_keys-one keys block answer halves makes ends = ends ∙ ap last_block makes ∙ sym (block_by_keys-halves keys block)

-- the halves of the block that two halves make are those, each in the place of the other
pub first_halves-last_block : (halves : List Bool × List Bool) → AreHalves halves
    → first_halves (last_block halves) ≡ turned halves
first_halves-last_block halves widths =
    let bits : List Bool = swapped halves in
    let permuted : select initial_permutation (bits_of_bytes (last_block halves)) ≡ bits =
    ap (select initial_permutation)
    (bits_of_bytes-block_of_bits (select final_permutation bits) (length-select final_permutation bits))
    ∙ select-initial_permutation bits (length-swapped halves widths) in
    ap₂ (λ (l r : List Bool). (l, r))
    (ap (take 32) permuted ∙ take_at halves.1 halves.0 32 widths.1)
    (ap (drop 32) permuted ∙ drop_at halves.1 halves.0 32 widths.1)

-- so the rounds of a pass after another begin with its halves, each in the place of the other
pub halves-next : (left right : ℕ) (block : List ℕ) → last_block (half_of left, half_of right) ≡ block
    → (half_of right, half_of left) ≡ first_halves block
halves-next left right block is =
    sym (first_halves-last_block _ (length-select half_positions _, length-select half_positions _)) ∙ ap first_halves is
