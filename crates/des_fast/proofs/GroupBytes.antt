-- The bytes of a word of groups: each is the number that its group writes.
use Rattle.std.proofs.Common.{◌≡◌, ℕ, suc, ◌+◌, ◌-◌, ◌*◌, ◌/◌, ◌%◌, ◌^◌, ◌<◌, ◌≤◌, List, [], ◌∷◌, ◌++◌, length, lit≤, take, drop, slice_index, slice_index_or, bit_and, bit_or, refl, ap, ◌∙◌, arith}
use Rattle.std.specs.Int.{w64, to_be_bytes, rotate_right}
use Rattle.std.specs.Simd.Lanes.{digits_l, number_l}
use Rattle.std.proofs.lemmas.List.{get_or_append_left}
use Rattle.std.proofs.lemmas.Nat.{and_le_r, and_mask, and_shr, and_mod, or_comm, or_shifted}
use Rattle.des.specs.Bits.{bits_of, bits_of_bytes, select}
use Rattle.des.specs.Laws.BitLists.{bits_of_bytes-to_be}
use Rattle.des_fast.specs.Groups.{group_positions, bits_of_groups, IsOfGroups}
use Rattle.des_fast.specs.GroupBytes.{byte_order, in_order}

-- eight bits of a word of groups, from a place where the mask has six ones after two zeros
place-lt : (k word : ℕ) → 0x3f3f3f3f3f3f3f3f / 2 ^ k % 2 ^ 8 ≡ 63 → IsOfGroups word → word / 2 ^ k % 2 ^ 8 < 64
place-lt k word six of_groups =
    rw (← of_groups, and_shr word 0x3f3f3f3f3f3f3f3f k, and_mod (word / 2 ^ k) (0x3f3f3f3f3f3f3f3f / 2 ^ k) 8, six)
    (omega (arith, and_le_r (word / 2 ^ k % 2 ^ 8) 63))

-- each byte of a word of groups is below 64
pub bytes-lt : (word : ℕ) → IsOfGroups word → (i d : ℕ) → i < 8 → slice_index_or (to_be_bytes w64 word) i d < 64
bytes-lt word of_groups (suc (suc (suc (suc (suc (suc (suc (suc i)))))))) d below = absurd (omega arith)
bytes-lt word of_groups i d below = omega (arith, place-lt (8 * (7 - i)) word refl of_groups)

-- so is each in the order of the boxes
pub in_order-lt : (word : ℕ) → IsOfGroups word → (i d : ℕ) → i < 8
    → slice_index_or (in_order (to_be_bytes w64 word)) i d < 64
in_order-lt word of_groups (suc (suc (suc (suc (suc (suc (suc (suc i)))))))) d below = absurd (omega arith)
in_order-lt word of_groups i d below = bytes-lt word of_groups (slice_index byte_order i) d (lit≤ tt)

-- the lowest six bits of each are six of all their bits
bits_of-byte : (word i : ℕ) → i < 8
    → let bytes = to_be_bytes w64 word in
    bits_of 6 (slice_index (in_order bytes) i) ≡ take 6 (drop (6 * i) (select group_positions (bits_of_bytes bytes)))
unfolding bits_of bits_of_bytes select
bits_of-byte word (suc (suc (suc (suc (suc (suc (suc (suc i)))))))) below = absurd (omega arith)
bits_of-byte word i below = refl

-- so each has the bits of its group
pub bits_of-in_order : (word i : ℕ) → i < 8
    → bits_of 6 (slice_index (in_order (to_be_bytes w64 word)) i) ≡ take 6 (drop (6 * i) (bits_of_groups word))
bits_of-in_order word i below =
    bits_of-byte word i below
    ∙ ap (λ bits. take 6 (drop (6 * i) (select group_positions bits))) (bits_of_bytes-to_be word)

-- the two parts of a rotated word share no bit, so that it is their sum
joined : (word low high : ℕ) → word / 2 ^ low < 2 ^ high → word * 2 ^ high % 2 ^ 64 ≡ word % 2 ^ low * 2 ^ high
    → bit_or (word / 2 ^ low) (word * 2 ^ high % 2 ^ 64) ≡ word % 2 ^ low * 2 ^ high + word / 2 ^ low
joined word low high below moved =
    ap (bit_or (word / 2 ^ low)) moved ∙ or_comm (word / 2 ^ low) (word % 2 ^ low * 2 ^ high)
    ∙ or_shifted (word % 2 ^ low) high (word / 2 ^ low) below

-- the bytes by shifts and masks of a word and of its rotations by two bytes and by five
abbrev pub rotated_bytes : ℕ → ℕ → ℕ → List ℕ
rotated_bytes word by_two by_five =
    let last : ℕ → ℕ = λ part. bit_and part 0x00000000000000ff in
    word / 2 ^ 56 ∷ last (by_two / 2 ^ 8) ∷ last (by_five / 2 ^ 8) ∷ last by_two ∷ last by_five ∷ by_two / 2 ^ 56
    ∷ by_five / 2 ^ 56 ∷ last word ∷ []

pub rotated_bytes-in_order : (word by_two by_five : ℕ) → word < 2 ^ 64 → by_two ≡ rotate_right w64 word 16
    → by_five ≡ rotate_right w64 word 40 → rotated_bytes word by_two by_five ≡ in_order (to_be_bytes w64 word)
rotated_bytes-in_order word by_two by_five below is_by_two is_by_five =
    let masked : (byte : ℕ) → bit_and byte 0x00000000000000ff ≡ byte % 2 ^ 8 = λ byte. and_mask byte 8 in
    let two : by_two ≡ word % 2 ^ 16 * 2 ^ 48 + word / 2 ^ 16 =
    is_by_two ∙ joined word 16 48 (omega arith) (omega arith) in
    let five : by_five ≡ word % 2 ^ 40 * 2 ^ 24 + word / 2 ^ 40 =
    is_by_five ∙ joined word 40 24 (omega arith) (omega arith) in
    let first : word / 2 ^ 56 ≡ word / 2 ^ 56 % 2 ^ 8 = omega (arith, below) in
    let second : by_two / 2 ^ 8 % 2 ^ 8 ≡ word / 2 ^ 24 % 2 ^ 8 = omega (arith, two) in
    let third : by_five / 2 ^ 8 % 2 ^ 8 ≡ word / 2 ^ 48 % 2 ^ 8 = omega (arith, five) in
    let fourth : by_two % 2 ^ 8 ≡ word / 2 ^ 16 % 2 ^ 8 = omega (arith, two) in
    let fifth : by_five % 2 ^ 8 ≡ word / 2 ^ 40 % 2 ^ 8 = omega (arith, five) in
    let sixth : by_two / 2 ^ 56 ≡ word / 2 ^ 8 % 2 ^ 8 = omega (arith, two) in
    let seventh : by_five / 2 ^ 56 ≡ word / 2 ^ 32 % 2 ^ 8 = omega (arith, five) in
    simp masked (rw (second, third, fourth, fifth, sixth, seventh) (
    ap (λ (byte : ℕ). byte ∷ drop 1 (in_order (to_be_bytes w64 word))) first))

-- more after the bytes changes none of them
pub in_order-append : (bytes more : List ℕ) → 8 ≤ length bytes → in_order (bytes ++ more) ≡ in_order bytes
in_order-append bytes more long =
    let same : (i : ℕ) → i < 8 → slice_index_or (bytes ++ more) i 0 ≡ slice_index_or bytes i 0 =
    λ i below. get_or_append_left bytes more 0 i (omega arith) in
    rw (same 0 (lit≤ tt), same 1 (lit≤ tt), same 2 (lit≤ tt), same 3 (lit≤ tt)) (
    rw (same 4 (lit≤ tt), same 5 (lit≤ tt), same 6 (lit≤ tt), same 7 (lit≤ tt)))

-- the digits of a word in base 256 are its bytes, from the last to the first
pub digits-to_be : (word i : ℕ) → i < 8
    → slice_index_or (digits_l 256 8 (number_l (2 ^ 64) (word ∷ []))) (7 - i) 0
    ≡ slice_index_or (to_be_bytes w64 word) i 0
digits-to_be word (suc (suc (suc (suc (suc (suc (suc (suc i)))))))) below = absurd (omega arith)
digits-to_be word i below = omega arith
