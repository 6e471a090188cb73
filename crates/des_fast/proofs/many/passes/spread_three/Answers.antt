use Rattle.std.proofs.Common.{[], ◌∷◌, map, ap, ap₂, ◌∙◌, arith}
use Rattle.des_fast.specs.Passes.{block_through_passes}
use Rattle.des_fast.specs.RoundKeySlices.{round_keys_in}
use Rattle.des_fast.proofs.PassDirections.{through-keys}
use Rattle.des_fast.proofs.ThreePasses.{block_through_passes-three, three-written}
use Rattle.des_fast.proofs.many.passes.spread_three.Goals as goal

pub returns : goal.returns
returns g c b within =
    ap (λ passes. block_through_passes (map (round_keys_in (g.S.Slice.bit b)) passes))
    (three-written c.args.slices.now c.spread_shared.new.slices c.spread_shared-2.new.slices c.spread_shared-3.new.slices (omega arith))
    ∙ ap block_through_passes
    (ap₂ (λ first rest. first ∷ rest) (c.spread_shared.ensures b within)
    (ap₂ (λ second rest. second ∷ rest) (c.spread_shared-2.ensures b within)
    (ap (λ third. third ∷ []) (c.spread_shared-3.ensures b within))))
    ∙ block_through_passes-three _ _ _
    ∙ through-keys c.args.passes.now
