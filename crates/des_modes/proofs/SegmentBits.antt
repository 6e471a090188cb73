-- CFB with segments of s bytes is CFB of 8 s bits, of the bits of the bytes.
use Rattle.std.proofs.Common.{zero-add, ◌≡◌, ℕ, ◌+◌, ◌*◌, ◌<◌, ◌≤◌, List, ◌++◌, length, drop, refl, ap, arith, length-append, length-drop, length-take-le, ◌-◌, ◌/◌, ◌%◌, ◌==◌, get_or, ◌∙◌}
use Rattle.std.proofs.lemmas.List.Elements.{All-append, All-take, All-drop}
use Rattle.des.specs.Blocks.{AreBytes, IsBlock, block_of_bits}
use Rattle.des.specs.Laws.BlockBits.{block_of_bits-bits_of_bytes}
use Rattle.des_modes.specs.Cfb.{Cfb, CfbBits, cfb_bits, input_bits, input_block}
use Rattle.std.proofs.Math.Arith.{mod-mul}
use Rattle.std.proofs.Math.Nat.{div-div-eq-div-mul, mod-lt, mul_assoc, mul-div-le}
use Rattle.std.specs.Int.{bit_at}
use Rattle.des.specs.Bits.{bits_of_bytes}
use Rattle.des.specs.Laws.BitLists.{length-bits_of_bytes}
use Rattle.des.proofs.BitParts.{bit_at-xor}
use Rattle.des_modes.proofs.BitPlaces.{bits-window, block_bit-at, block_bit_of_byte}

-- the registers are blocks
pub IsBlock-input_block : (s : ℕ) (iv c : List ℕ) (j : ℕ) → IsBlock iv → AreBytes c → s * j ≤ length c
    → IsBlock (input_block s iv c j)
IsBlock-input_block s iv c j is_iv are_bytes begun = (
  length-take-le 8 (drop (s * j) (iv ++ c)) (omega (arith, is_iv.0, length-drop (s * j) (iv ++ c), length-append iv c)),
  All-take (λ byte. byte < 256) 8 (drop (s * j) (iv ++ c))
      (All-drop (λ byte. byte < 256) (s * j) (iv ++ c) (All-append (λ byte. byte < 256) iv c is_iv.1 are_bytes)),
)

-- the register before a segment, in bits
input_bits-bits : (s : ℕ) (iv c : List ℕ) (j : ℕ) → IsBlock iv → AreBytes c → s * j ≤ length c
    → input_bits (8 * s) iv (bits_of_bytes c) j ≡ input_block s iv c j
input_bits-bits s iv c j is_iv are_bytes begun =
    ap block_of_bits (bits-window (s * j) (8 * s * j) iv c (omega (arith, is_iv.0, length-append iv c)) (mul_assoc 8 s j))
    ∙ block_of_bits-bits_of_bytes (input_block s iv c j) (IsBlock-input_block s iv c j is_iv are_bytes begun)

-- the place of a bit in its segment
place_of_bit : (s i : ℕ) → 1 ≤ s → i % (8 * s) ≡ 8 * (i / 8 % s) + i % 8
place_of_bit s i some =
    let swapped : 8 * s ≡ s * 8 = omega arith in
    let digits : i % (s * 8) ≡ (i / 8 % s) * 8 + i % 8 = mod-mul i some (omega arith) in rw swapped (omega arith)

pub CfbBits-from_Cfb : (s : ℕ) (E : List ℕ → List ℕ) (iv p c : List ℕ) → 1 ≤ s → s ≤ 8 → IsBlock iv → AreBytes c
    → ((block : List ℕ) → IsBlock block → IsBlock (E block)) → Cfb s E iv p c
    → CfbBits (8 * s) E iv (bits_of_bytes p) (bits_of_bytes c)
CfbBits-from_Cfb s E iv p c some short is_iv are_bytes makes_blocks cfb = record {
  count = omega (arith, length-bits_of_bytes p, length-bits_of_bytes c, cfb.count);
  xored = λ i below.
      let b : ℕ = i / 8 in
      let k : ℕ = 7 - i % 8 in
      let inside : b < length p = omega (arith, length-bits_of_bytes p) in
      let begun : s * (b / s) ≤ length c = omega (arith, mul-div-le b s, cfb.count) in
      let output : List ℕ = E (input_block s iv c (b / s)) in
      let is_block : IsBlock output = makes_blocks _ (IsBlock-input_block s iv c (b / s) is_iv are_bytes begun) in
      let stream : cfb_bits (8 * s) E iv (bits_of_bytes c) (0 + i) ≡ (bit_at (get_or output (b % s) 0) k == 1) =
      rw (zero-add i, ← div-div-eq-div-mul i 8 s, place_of_bit s i some, input_bits-bits s iv c (b / s) is_iv are_bytes begun)
      (block_bit-at output (b % s) (i % 8) _ refl (omega (arith, is_block.0, mod-lt b some)) (omega arith)) in
      let block = block_bit_of_byte c i (omega (arith, length-bits_of_bytes p, cfb.count)) in
      rw (stream, block, block_bit_of_byte p i (omega (arith, length-bits_of_bytes p)), cfb.xored b inside, zero-add b)
      (bit_at-xor (get_or p b 0) (get_or output (b % s) 0) k);
}
