use Rattle.std.proofs.Common.{ℕ, List, true, ◌<◌, take, replicate, ap, ◌∙◌}
use Rattle.std.proofs.lemmas.List.Elements.{All-from_get_or}
use Rattle.des.specs.Blocks.{AreBytes}
use Rattle.des.proofs.TripleGraphs.{HasGraphs-Triple}
use Rattle.des_uses.proofs.payment.check_values.check_value_of_ede3.Goals as goal

-- what the key's encryption takes a block to is what the relation of the cipher does
pub returns : goal.returns
returns c encrypted related =
    let key : List ℕ = c.args.key.now in
    let bytes : AreBytes key = All-from_get_or (λ byte. byte < 256) key 0 (λ i within. c.fits-key i) in
    let graph = (HasGraphs-Triple true true key (c.told-key, bytes)).encryption (replicate 8 0) encrypted in
    (rw c.unwrap.ensures at c.check_value.ensures.value) ∙ ap (take 3) (graph.0 related).1
