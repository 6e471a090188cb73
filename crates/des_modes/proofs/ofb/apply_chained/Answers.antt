use Rattle.std.proofs.Common.{◌≡◌, ℕ, ◌+◌, ◌-◌, ◌/◌, ◌%◌, ◌≤◌, List, length, ap, ap₂, ◌∙◌, arith, bit_xor, get_or}
use Rattle.des_modes.specs.Ofb.{output_block}
use Rattle.des_modes.proofs.ChainedOutputs.{length-blocks, outputs-of_part}
use Rattle.des_modes.proofs.Pieces.{length-behind}
use Rattle.des_modes.proofs.ofb.apply_chained.Goals as goal

pub returns-clause-goes : goal.returns-clause-goes
returns-clause-goes g c direction iv = record {
  goes = λ d more at.
      let E : List ℕ → List ℕ = g.C.BlockCipherEncrypt.encrypted c.args.cipher.now in
      let bytes : List ℕ = c.args.bytes.now in
      let n : ℕ = length d in
      let q : List (List ℕ) = c.write_outputs.new.outputs in
      let k : ℕ = c.div_ceil.result in
      let few : k ≤ 256 = omega (arith, c.div_ceil.ensures, c.requires.few) in
      let many : length q ≡ k = c.write_outputs.auto.outputs ∙ length-blocks _ 256 k few in
      let whole : n % 8 ≡ 0 = omega (arith, at.1, c.requires.between) in
      let last : ℕ = length q - 1 in
      let end : last + 1 + n / 8 ≡ (n + length bytes + 7) / 8 = omega (arith, c.div_ceil.ensures) in
      let outputs = outputs-of_part E iv c.args.place.now.register n q whole at.0 c.write_outputs.ensures c.are_blocks.ensures in
      rw (length-behind direction d bytes _ c.xor_blocks_from.auto.bytes) (
        (outputs last (omega (arith, c.div_ceil.ensures)) ∙ ap (output_block E iv) end, omega arith),
        record {
          count = c.xor_blocks_from.auto.bytes;
          xored = λ i below.
              let block : (0 + i) / 8 + 1 + n / 8 ≡ (n + i) / 8 + 1 = omega arith in
              let byte : (0 + i) % 8 ≡ (n + i) % 8 = omega arith in
              c.xor_blocks_from.ensures i below
              ∙ ap₂ (λ (x : List ℕ) (r : ℕ). bit_xor (get_or bytes i 0) (get_or x r 0))
              (outputs ((0 + i) / 8) (omega (arith, c.div_ceil.ensures)) ∙ ap (output_block E iv) block) byte;
        },
      );
}
