use Rattle.std.proofs.Common.{Bool, List, map, ◌++◌, ap, ◌∙◌, arith}
use Rattle.std.proofs.lemmas.List.{length-map, length-append}
use Rattle.des_fast.specs.RoundKeySlices.{round_keys_by}
use Rattle.des_fast.proofs.ChosenKeys.{round_keys_under-chosen}
use Rattle.des_fast.proofs.slices.keys.PassSlices.choose.Goals as goal

pub returns : goal.returns
returns g c b within key are =
    let left : List Bool = map (g.S.Slice.bit b) c.args.left.now in
    let right : List Bool = map (g.S.Slice.bit b) c.args.right.now in
    ap (λ (halves : List Bool). round_keys_by halves c.args.deciphers) (c.write_selection.ensures b within)
    ∙ round_keys_under-chosen c.args.deciphers (left ++ right) key
    (omega (
      arith,
      length-append left right,
      length-map c.args.left.now (g.S.Slice.bit b),
      length-map c.args.right.now (g.S.Slice.bit b),
      c.told-left,
      c.told-right,
    )) are
