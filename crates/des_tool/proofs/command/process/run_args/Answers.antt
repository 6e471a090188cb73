use Rattle.std.proofs.Common.{◌≡◌, rules, map, drop, string_bytes, Ok, inl, refl, ap, ◌∙◌}
use Rattle.std.specs.Vec.Iter.{into_iter_items, into_iter_len}
use Rattle.std.proofs.lemmas.Iterator.{items_from_collect, YieldsList-from_slice, YieldsList-from_map_by}
use Rattle.std.proofs.lemmas.Iterator.Adapters.{YieldsList-from_vec, YieldsList-from_skip}
use Rattle.std.proofs.lemmas.Iterator.Consumers.{map_from_collect}
use Rattle.std.proofs.lemmas.Result.{IfOk-at_ok}
use Rattle.des_tool.specs.Request.{texts}
use Rattle.des_tool.specs.Run.{texts_of_args}
use Rattle.des_tool.proofs.command.process.run_args.Goals as goal

-- the words are the arguments but the first
pub returns-clause-ran : goal.returns-clause-ran
returns-clause-ran g c =
    let args = c.in_ok-arguments.arguments in
    let given : c.args.arguments ≡ Ok args = search rules in
    let source = c.skip.ensures.source in
    let all = YieldsList-from_vec (into_iter_items args) (ap into_iter_items source)
    (ap into_iter_len source ∙ args.rest.ok.0) in
    let strings = c.in_ok-arguments-2.arguments.items in
    let kept : strings ≡ drop 1 (into_iter_items args) =
    rw c.in_ok-arguments-2.was at (items_from_collect c.collect.result c.collect.ensures.ran
    (YieldsList-from_skip 1 all c.skip.ensures.count)) in
    let read : texts c.in_ok-arguments-3.arguments.items ≡ map string_bytes strings =
    IfOk-at_ok _ c.in_ok-arguments-3.was (map_from_collect _ c.collect-2.ensures.ran
    (YieldsList-from_map_by _ (λ r. r.now) string_bytes (YieldsList-from_slice strings cc) c.map.ensures.closure
    (λ x r q k. search rules))) in
    let words : texts c.as_slice.result.now ≡ texts_of_args args =
    ap texts c.as_slice.ensures.value ∙ read ∙ ap (map string_bytes) kept in
    (texts_of_args args, rw given (inl refl), rw words at c.run_on.ensures)
