use Rattle.std.proofs.Common.{arith, sym, ap, ◌∙◌, replicate, ℕ}
use Rattle.des_fast.specs.Slices.{bit_of_block, place_of_block}
use Rattle.des_fast.proofs.SliceBits.{HasBit-zeros, HasBit-not}
use Rattle.des_fast.proofs.slices.vectors.U64x2Slice.same.Goals as goal
use Rattle.des_fast.proofs.slices.vectors.U64x2Slice.same.Goals.{then-value, else-value}

pub returns : goal.returns
returns c b within =
    let place : ℕ = place_of_block 2 b in
    elim c.if-value.branch [
      | then-value w ↦ ap (λ (x : ℕ). bit_of_block 2 b (replicate 2 x)) w.result-is
          ∙ (HasBit-not 2 place (replicate 2 0) _ (omega arith) (HasBit-zeros 2 place (omega arith))).1 ∙ sym w.if-value.true
      | else-value w ↦ ap (λ (x : ℕ). bit_of_block 2 b (replicate 2 x)) w.result-is
          ∙ (HasBit-zeros 2 place (omega arith)).1 ∙ sym w.if-value.false
    ]
