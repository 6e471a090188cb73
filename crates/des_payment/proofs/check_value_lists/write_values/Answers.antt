use Rattle.std.proofs.Common.{ℕ, List, [], map, take, sym, ◌∙◌, arith}
use Rattle.std.proofs.lemmas.List.{ext_get_or, get_or-map, length-map}
use Rattle.des_payment.proofs.check_value_lists.write_values.Goals as goal

-- a value more
pub returns : goal.returns
returns c =
    let blocks : List (List ℕ) = c.args.blocks.now in
    ext_get_or [] c.values.values (map (take 3) blocks) (c.values.invariant.count ∙ sym (length-map blocks (take 3)))
    (λ m below.
    c.values.invariant.written m (omega arith)
    ∙ sym (get_or-map (take 3) blocks m [] [] (omega (arith, c.values.invariant.count))))
