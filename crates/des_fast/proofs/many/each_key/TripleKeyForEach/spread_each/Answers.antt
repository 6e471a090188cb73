use Rattle.std.proofs.Common.{List, ℕ, [], map, get_or, ap, ◌∙◌, arith}
use Rattle.std.proofs.lemmas.List.{length-map}
use Rattle.des_fast.specs.declared.many.lanes.PassPart.{PassPart}
use Rattle.des_fast.specs.EachKey.{round_keys_of_parts}
use Rattle.des_fast.specs.Passes.{block_through_passes}
use Rattle.des_fast.proofs.PassesByKeys.{three_parts}
use Rattle.des_fast.proofs.many.each_key.TripleKeyForEach.spread_each.Goals as goal

pub returns : goal.returns
returns g c k below =
    let key : List ℕ = get_or (map g.P.Key.KeyBytes.bytes_of c.args.keys.now) k [] in
    ap block_through_passes
    (c.spread_three.ensures k (omega (arith, below, length-map c.args.keys.now g.P.Key.KeyBytes.bytes_of)))
    ∙ ap (λ (parts : List PassPart). block_through_passes (round_keys_of_parts parts key)) c.parts_of.ensures
    ∙ three_parts g.P.Parts.has_three g.F.Form.DECIPHERS_SECOND c.args.deciphers key
