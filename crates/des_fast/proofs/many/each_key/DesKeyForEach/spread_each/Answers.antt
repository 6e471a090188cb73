use Rattle.std.proofs.Common.{◌<◌, List, [], ◌∷◌, length, arith}
use Rattle.std.proofs.lemmas.List.{length-map}
use Rattle.des_fast.specs.declared.many.lanes.PassPart.{PassPart}
use Rattle.des_fast.specs.LaneKeys.{block_in}
use Rattle.des.specs.Des.{encryption, decryption}
use Rattle.des_fast.proofs.PassesByKeys.{lane-by_parts, one_part}
use Rattle.des_fast.proofs.many.each_key.DesKeyForEach.spread_each.Goals as goal

pub returns : goal.returns
returns g c k below =
    let inside : k < length c.args.keys.now = omega (arith, length-map c.args.keys.now (λ key. key)) in
    let parts : List PassPart = record { number = 1; deciphers = c.args.deciphers } ∷ [] in
    lane-by_parts (g.S.Slice.bit k) _ parts (block_in c.args.deciphers encryption decryption) c.args.keys.now k
    (c.spread_one.ensures k inside) (one_part c.args.deciphers _ (c.told-keys k inside))
