use Rattle.des_fast.proofs.RowPlaces.{row-right, row-left}
use Rattle.des_fast.proofs.slices.transposition.row.Goals as goal

pub returns-then-bit-eq0 : goal.returns-then-bit-eq0
returns-then-bit-eq0 g c b within =
    row-right (g.S.Slice.place_bit b) c.args.left.now c.args.right.now c.args.byte c.args.bit c.requires.of_eight
    c.requires.of_a_byte c.told-left c.told-right _ c.if-bit-eq0.true

pub returns-else-bit-eq0 : goal.returns-else-bit-eq0
returns-else-bit-eq0 g c b within =
    row-left (g.S.Slice.place_bit b) c.args.left.now c.args.right.now c.args.byte c.args.bit c.requires.of_eight
    c.requires.of_a_byte c.told-left c.told-right _ c.if-bit-eq0.false
