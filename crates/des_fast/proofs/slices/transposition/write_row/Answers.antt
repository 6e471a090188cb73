use Rattle.des_fast.proofs.RowPlaces.{set-right, set-left}
use Rattle.des_fast.proofs.slices.transposition.write_row.Goals as goal

pub returns-then-bit-eq0 : goal.returns-then-bit-eq0
returns-then-bit-eq0 g c b within =
    set-right (g.S.Slice.place_bit b) c.args.left.now c.args.right.now c.args.byte c.args.bit c.requires.of_eight
    c.requires.of_a_byte c.told-left c.told-right c.args.row c.if-bit-eq0.true

pub returns-else-bit-eq0 : goal.returns-else-bit-eq0
returns-else-bit-eq0 g c b within =
    set-left (g.S.Slice.place_bit b) c.args.left.now c.args.right.now c.args.byte c.args.bit c.requires.of_eight
    c.requires.of_a_byte c.told-left c.told-right c.args.row c.if-bit-eq0.false
