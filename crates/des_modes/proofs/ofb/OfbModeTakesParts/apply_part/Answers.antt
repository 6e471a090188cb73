use Rattle.std.proofs.Common.{◌≡◌, ℕ, ◌+◌, ◌/◌, ◌%◌, ◌≤◌, List, length, ap, ap₂, ◌∙◌, arith, bit_xor, get_or}
use Rattle.std.proofs.lemmas.Bool.Decides.{nat_tests}
use Rattle.des_modes.specs.Ofb.{output_block}
use Rattle.des_modes.proofs.Pieces.{length-behind}
use Rattle.des_modes.proofs.ofb.OfbModeTakesParts.apply_part.Goals as goal

pub returns-then-bytes-gt8-clause-goes : goal.returns-then-bytes-gt8-clause-goes
returns-then-bytes-gt8-clause-goes g c = c.apply_chained.ensures.goes c.args._direction

pub returns-else-bytes-gt8-clause-goes : goal.returns-else-bytes-gt8-clause-goes
returns-else-bytes-gt8-clause-goes g c iv = record {
  goes = λ d more at.
      let E : List ℕ → List ℕ = g.C.BlockCipherEncrypt.encrypted c.args.cipher.now in
      let bytes : List ℕ = c.args.bytes.now in
      let n : ℕ = length d in
      let made = c.current-output.ensures iv n at in
      -- few bytes are within a block
      let here : c.args.place.now.used + length bytes ≤ 8 = grind (arith, nat_tests, c.requires.few) in
      let end : n / 8 + 1 ≡ (n + length bytes + 7) / 8 = omega (arith, at.1) in
      rw (length-behind c.args._direction d bytes _ c.xor_block_from.auto.bytes) (
        (made ∙ ap (output_block E iv) end, omega (arith, at.1)),
        record {
          count = c.xor_block_from.auto.bytes;
          xored = λ i below.
              let block : n / 8 + 1 ≡ (n + i) / 8 + 1 = omega (arith, at.1) in
              let byte : c.args.place.now.used + i ≡ (n + i) % 8 = omega (arith, at.1) in
              c.xor_block_from.ensures i below
              ∙ ap₂ (λ (x : List ℕ) (r : ℕ). bit_xor (get_or bytes i 0) (get_or x r 0)) (made ∙ ap (output_block E iv) block) byte;
        },
      );
}
