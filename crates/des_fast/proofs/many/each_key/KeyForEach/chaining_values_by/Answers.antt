-- The one key is that of each lane.
use Rattle.std.proofs.Common.{◌<◌, [], replicate, ap, ◌∙◌, arith}
use Rattle.std.proofs.lemmas.List.{length-replicate, get_or-map, get_or-replicate}
use Rattle.des_fast.proofs.many.each_key.KeyForEach.chaining_values_by.Goals as goal

pub returns-clause-ok : goal.returns-clause-ok
returns-clause-ok g c =
    let key = c.args.key.now in
    let bytes = g.Self.Key.KeyBytes.bytes_of in
    c.last_values.ensures.ends (λ _. g.Self.KeyedCipher.encryption (bytes key))
    (λ n b within.
    let inside : b < 256 = omega (arith, g.met.S.Slice.at_most) in
    c.spread_batch.ensures b within
    ∙ ap g.Self.KeyedCipher.encryption
    (get_or-map bytes (replicate 256 key) b key [] (omega (arith, length-replicate 256 key))
    ∙ ap bytes (get_or-replicate 256 b key key inside)))
