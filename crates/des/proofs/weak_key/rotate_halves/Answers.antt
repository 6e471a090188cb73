use Rattle.des.proofs.RotatedHalves.{bits_of_word-rotated_halves}
use Rattle.des.proofs.weak_key.rotate_halves.Goals as goal

pub returns : goal.returns
returns c c_bits d_bits c_size d_size same =
    bits_of_word-rotated_halves c.args.halves c_bits d_bits c.ranges.halves.fits c_size d_size same
