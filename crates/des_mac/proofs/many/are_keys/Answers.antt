use Rattle.std.proofs.Common.{[], length, ap, sym, below_more, ◌∙◌}
use Rattle.std.proofs.lemmas.List.{get_or-map}
use Rattle.des_mac.proofs.many.are_keys.Goals as goal

pub loop-key-preserved : goal.loop-key-preserved
loop-key-preserved g c =
    let bytes = g.K.KeyBytes.bytes_of in
    below_more _ _ c.loop-key.invariant
    (ap length (get_or-map bytes c.args.keys.now c.loop-key.key-index c.key-item.result [] c.loop-key-test.true
    ∙ ap bytes (sym c.key-item.is))
    ∙ c.are_key_bytes.ensures.0)
