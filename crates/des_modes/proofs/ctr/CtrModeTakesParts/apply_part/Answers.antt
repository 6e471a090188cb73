use Rattle.std.proofs.Common.{◌≡◌, ℕ, ◌+◌, List, length, ap, ◌∙◌, arith, ◌/◌, ◌%◌, ◌^◌, ◌<◌}
use Rattle.std.specs.Int.{w64, from_be_bytes}
use Rattle.std.proofs.lemmas.Nat.{from_be_bytes-to_be_bytes_8}
use Rattle.des_modes.proofs.Pieces.{length-behind}
use Rattle.des_modes.proofs.ctr.CtrModeTakesParts.apply_part.Goals as goal

pub returns-clause-goes : goal.returns-clause-goes
returns-clause-goes g c t = record {
  goes = λ d more at.
      let old : List ℕ = c.args.bytes.now in
      let used : ℕ = c.args.place.now.used in
      let number : ℕ = c.from_be_bytes-counter.result in
      let is : number ≡ (from_be_bytes w64 t + length d / 8) % 2 ^ 64 = c.from_be_bytes-counter.ensures ∙ at.0 in
      -- i bytes further on
      let counter : (i : ℕ) → (number + (used + i) / 8) % 2 ^ 64 ≡ (from_be_bytes w64 t + (length d + i) / 8) % 2 ^ 64 =
      λ i. omega (arith, is, at.1) in
      let fits : (number + (used + length old) / 8) % 2 ^ 64 < 2 ^ 64 = omega arith in
      rw (length-behind c.args._direction d old _ c.apply_outputs.auto.bytes) (
        (
          ap (from_be_bytes w64) c.to_be_bytes-place.ensures ∙ from_be_bytes-to_be_bytes_8 _ fits ∙ counter (length old),
          omega (arith, at.1),
        ),
        record {
          count = c.apply_outputs.auto.bytes;
          xored = λ i below.
              let byte : (used + i) % 8 ≡ (length d + i) % 8 = omega (arith, at.1) in
              rw (← counter i, ← byte) (c.apply_outputs.ensures i below);
        },
      );
}
