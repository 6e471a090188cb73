use Rattle.std.proofs.Common.{◌≡◌, ℕ, ◌≤◌, length, map, take, ◌∙◌, arith, length-take-le}
use Rattle.std.proofs.lemmas.List.{length-map}
use Rattle.des_fast.proofs.KeysAtPlaces.{under_key-first}
use Rattle.des_fast.proofs.many.each_key.spread_batch.Goals as goal

pub returns : goal.returns
returns g c b within =
    let bytes = g.C.Key.KeyBytes.bytes_of in
    let batch : ℕ = c.BATCH.result in
    let is : batch ≡ g.S.Slice.BATCH = c.BATCH.ensures in
    let buffer : batch ≤ length c.args.keys.now = omega (arith, g.met.S.Slice.at_most, c.told-keys) in
    let taken : length (map bytes (take batch c.args.keys.now)) ≡ batch =
    length-map (take batch c.args.keys.now) bytes ∙ length-take-le batch c.args.keys.now buffer in
    c.spread_each.ensures b (omega arith)
    ∙ under_key-first bytes g.C.KeyedCipher.encryption c.args.keys.now batch b (omega arith)
