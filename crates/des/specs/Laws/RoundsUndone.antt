-- The rounds, and that the round keys in the opposite order undo them, whatever the round keys are.
use Rattle.std.proofs.Common.{◌≡◌, ℕ, List, [], ◌∷◌, ◌++◌, Bool, length, take, drop, reverse, refl, sym, ap, ◌∙◌, length-append, length-drop, length-take-le, take-append-drop, take_at, drop_at, arith}
use Rattle.std.proofs.lemmas.List.{reverse-append, reverse-reverse}
use Rattle.des.specs.Bits.{bits_of_bytes, select, xor_bits}
use Rattle.des.specs.Tables.{initial_permutation, final_permutation}
use Rattle.des.specs.CipherFunction.{cipher_function}
use Rattle.des.specs.Rounds.{after_rounds, swapped, through_rounds, block_by_keys}
use Rattle.des.specs.Blocks.{IsBlock, block_of_bits}
use Rattle.des.specs.Laws.Selections.{length-select, length-xor_bits, length-cipher_function, xor_bits-xor_bits, select-initial_permutation, select-final_permutation}
use Rattle.des.specs.Laws.BlockBits.{IsBlock-block_of_bits, bits_of_bytes-block_of_bits, block_of_bits-bits_of_bytes, length-bits_of_block}
use Rattle.des.specs.Laws.Passes.{IsPass}

-- the right half that a round makes
abbrev pub next_half : List Bool → List Bool → List Bool → List Bool
next_half left right key = xor_bits left (cipher_function right key)

-- a round keeps the width of 32 bits
pub length-next_half : (left right key : List Bool) → length left ≡ 32
    → length (next_half left right key) ≡ 32
length-next_half left right key size =
    length-xor_bits left (cipher_function right key) (size ∙ sym (length-cipher_function right key))
    ∙ size

-- each of two halves has 32 bits
abbrev pub AreHalves : List Bool × List Bool → Type 0
AreHalves halves = (length halves.0 ≡ 32) × (length halves.1 ≡ 32)

-- the rounds keep the widths of the halves
pub AreHalves-after_rounds : (keys : List (List Bool)) (left right : List Bool)
    → AreHalves (left, right) → AreHalves (after_rounds keys left right)
unfolding after_rounds
AreHalves-after_rounds [] left right halves = halves
AreHalves-after_rounds (key ∷ keys) left right halves =
    AreHalves-after_rounds keys right (next_half left right key)
    (halves.1, length-next_half left right key halves.0)

-- the rounds of two lists of round keys, one list after the other
pub after_rounds-append : (keys more : List (List Bool)) (left right : List Bool)
    → after_rounds (keys ++ more) left right
    ≡ after_rounds more (after_rounds keys left right).0 (after_rounds keys left right).1
unfolding after_rounds
after_rounds-append [] more left right = refl
after_rounds-append (key ∷ keys) more left right =
    after_rounds-append keys more right (next_half left right key)

-- the round keys in the opposite order take the halves after the rounds, swapped, back to the
-- first, swapped
after_rounds-reverse : (keys : List (List Bool)) (left right : List Bool) → AreHalves (left, right)
    → after_rounds (reverse keys) (after_rounds keys left right).1 (after_rounds keys left right).0
    ≡ (right, left)
unfolding after_rounds
after_rounds-reverse [] left right halves = refl
after_rounds-reverse (key ∷ keys) left right halves =
    let next : List Bool = next_half left right key in
    let last : List Bool × List Bool = after_rounds keys right next in
    let rest : after_rounds (reverse keys) last.1 last.0 ≡ (next, right) =
    after_rounds-reverse keys right next (halves.1, length-next_half left right key halves.0) in
    let back : next_half next right key ≡ left =
    xor_bits-xor_bits left (cipher_function right key)
    (halves.0 ∙ sym (length-cipher_function right key)) in
    ap (λ ks. after_rounds ks last.1 last.0) (reverse-append (key ∷ []) keys)
    ∙ after_rounds-append (reverse keys) (key ∷ []) last.1 last.0
    ∙ ap (λ (h : List Bool × List Bool). after_rounds (key ∷ []) h.0 h.1) rest
    ∙ ap (λ (half : List Bool). (right, half)) back

-- the halves of a block after the initial permutation
pub AreHalves-permuted : (block : List Bool) → AreHalves
    (take 32 (select initial_permutation block), drop 32 (select initial_permutation block))
AreHalves-permuted block =
    let permuted : List Bool = select initial_permutation block in
    let width : length permuted ≡ 64 = length-select initial_permutation block in
    (length-take-le 32 permuted (omega arith), length-drop 32 permuted ∙ omega arith)

-- two halves, swapped, are 64 bits
pub length-swapped : (halves : List Bool × List Bool) → AreHalves halves
    → length (swapped halves) ≡ 64
length-swapped halves widths = length-append halves.1 halves.0 ∙ omega arith

-- what the rounds make of a block, from its halves after the initial permutation
pub through_rounds-from_halves : (keys : List (List Bool)) (block left right : List Bool)
    → length left ≡ 32 → select initial_permutation block ≡ left ++ right
    → through_rounds keys block ≡ select final_permutation (swapped (after_rounds keys left right))
unfolding through_rounds
through_rounds-from_halves keys block left right width begins =
    rw (begins, take_at left right 32 width, drop_at left right 32 width) refl

-- what the rounds make of a block has 64 bits
pub length-through_rounds : (keys : List (List Bool)) (block : List Bool)
    → length (through_rounds keys block) ≡ 64
unfolding through_rounds
length-through_rounds keys block = length-select final_permutation _

-- the round keys in the opposite order undo the rounds
through_rounds-reverse : (keys : List (List Bool)) (block : List Bool) → length block ≡ 64
    → through_rounds (reverse keys) (through_rounds keys block) ≡ block
unfolding through_rounds
through_rounds-reverse keys block width =
    let permuted : List Bool = select initial_permutation block in
    let left : List Bool = take 32 permuted in
    let right : List Bool = drop 32 permuted in
    let last : List Bool × List Bool = after_rounds keys left right in
    let halves : AreHalves (left, right) = AreHalves-permuted block in
    let ends : AreHalves last = AreHalves-after_rounds keys left right halves in
    let begins = select-initial_permutation (swapped last) (length-swapped last ends) in
    through_rounds-from_halves (reverse keys)
    (select final_permutation (swapped last)) last.1 last.0 ends.1 begins
    ∙ ap (λ h. select final_permutation (swapped h)) (after_rounds-reverse keys left right halves)
    ∙ ap (select final_permutation) (take-append-drop 32 permuted)
    ∙ select-final_permutation block width

-- the same of blocks of eight bytes
block_by_keys-reverse : (keys : List (List Bool)) (block : List ℕ) → IsBlock block
    → block_by_keys (reverse keys) (block_by_keys keys block) ≡ block
block_by_keys-reverse keys block is_block =
    let bits : List Bool = bits_of_bytes block in
    ap (λ (x : List Bool). block_of_bits (through_rounds (reverse keys) x))
    (bits_of_bytes-block_of_bits (through_rounds keys bits) (length-through_rounds keys bits))
    ∙ ap block_of_bits (through_rounds-reverse keys bits (length-bits_of_block block is_block))
    ∙ block_of_bits-bits_of_bytes block is_block

-- the rounds of a list of round keys, and those of the opposite order, are a pass
pub IsPass-block_by_keys : (keys : List (List Bool))
    → IsPass (block_by_keys keys) (block_by_keys (reverse keys))
IsPass-block_by_keys keys = record {
  forth_is_block = λ block is_block. IsBlock-block_of_bits _;
  back_is_block = λ block is_block. IsBlock-block_of_bits _;
  back_forth = block_by_keys-reverse keys;
  forth_back =
      λ block is_block. rw reverse-reverse at (block_by_keys-reverse (reverse keys) block is_block);
}
