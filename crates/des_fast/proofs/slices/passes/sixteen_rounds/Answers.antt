-- Two rounds more.
use Rattle.std.proofs.Common.{ℕ, ◌+◌, ◌*◌, ◌∙◌, ap, List, Bool, map, refl, arith}
use Rattle.des.specs.Rounds.{after_rounds}
use Rattle.des.specs.Laws.RoundsUndone.{next_half}
use Rattle.des_fast.specs.RoundKeySlices.{round_keys_by}
use Rattle.des_fast.proofs.RotatedHalves.{round_keys_by-at, length-round_keys_by}
use Rattle.des_fast.proofs.PassesOnSlices.{bits-two_rounds}
use Rattle.des_fast.proofs.slices.passes.sixteen_rounds.Goals as goal

pub pairs-init : goal.pairs-init
unfolding after_rounds
pairs-init g c b within = refl

pub pairs-preserved : goal.pairs-preserved
pairs-preserved g c b within =
    let read = map (g.S.Slice.bit b) in
    let i : ℕ = c.pairs.i in
    let halves : List Bool = read c.args.pass.now.halves in
    let deciphers : Bool = c.args.pass.now.deciphers in
    bits-two_rounds i (round_keys_by halves deciphers) (read c.args.left.now) (read c.args.right.now)
    (read c.pairs.left) (read c.pairs.right) (read c.round.new.left) (read c.round-in-pairs.new.left)
    (omega (arith, length-round_keys_by halves deciphers))
    (c.pairs.invariant b within)
    (c.round.ensures b within
    ∙ ap (next_half (read c.pairs.left) (read c.pairs.right)) (round_keys_by-at halves deciphers
    c.rotations-rotations.result (2 * i) c.rotations-rotations.ensures (omega arith)))
    (c.round-in-pairs.ensures b within
    ∙ ap (next_half (read c.pairs.right) (read c.round.new.left))
    (round_keys_by-at halves deciphers c.rotations-rotations.result (2 * i + 1) c.rotations-rotations.ensures
    (omega arith)))
