use Rattle.std.proofs.lemmas.List.{append_cancel_left}
use Rattle.des_modes.proofs.Pieces.{Xors-one, bits_undone}
use Rattle.des_modes.proofs.stream.Stream.apply_bits.Goals as goal

pub returns-clause-undone : goal.returns-clause-undone
returns-clause-undone g c iv p d text is made =
    append_cancel_left p _ text (Xors-one bits_undone (c.apply.ensures.made iv p d is.place.0 is.made) made)
