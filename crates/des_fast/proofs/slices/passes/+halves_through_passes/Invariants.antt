use Rattle.std.proofs.Common.{length}
use Rattle.des_fast.proofs.slices.passes.+halves_through_passes.Given as goal

abbrev pub decreases-halves_through_passes : goal.decreases-halves_through_passes
decreases-halves_through_passes g l = length l.passes.now
