-- A part more.
use Rattle.std.proofs.Common.{arith}
use Rattle.des_modes.proofs.Pieces.{GoesOn-joined, InPlace-more}
use Rattle.des_modes.proofs.parts.apply_parts.Goals as goal

pub parts-preserved : goal.parts-preserved
parts-preserved g c = record {
  within = omega (arith, c.min-count.ensures);
  fits = c.apply_part.ensures.fits;
  so_far = λ iv.
      InPlace-more _ (omega arith) (omega (arith, c.min-count.ensures)) c.apply_part.auto.bytes
      (λ done. GoesOn-joined c.args.direction done (c.apply_part.ensures.goes iv))
      (c.parts.invariant.so_far iv);
}
