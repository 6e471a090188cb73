use Rattle.std.proofs.Common.{ℕ, ◌<◌, List, length, get_or, ◌∙◌, arith}
use Rattle.std.proofs.lemmas.Grind.{same_number_lists}
use Rattle.des_payment.proofs.ChosenBytes.{chosen-ones, chosen-zeros, at_mask}
use Rattle.des_payment.proofs.transaction_lists.selected.Goals as goal

pub returns-clause-taken : goal.returns-clause-taken
returns-clause-taken c ones =
    let kept : List ℕ = c.args.kept.now in
    let taken : List ℕ = c.args.taken.now in
    same_number_lists c.loop-i.byte-items taken (omega arith)
    (λ k within.
    let inside : k < c.loop-i.i = omega arith in
    let in_kept : k < length kept = omega arith in
    let in_taken : k < length taken = omega arith in
    let small : get_or kept k 0 < 256 = c.are_bytes-2.ensures k 0 in_kept in
    let small_too : get_or taken k 0 < 256 = c.are_bytes.ensures k 0 in_taken in
    c.loop-i.invariant.chosen k inside
    ∙ at_mask c.args.mask 255 (get_or kept k 0) (get_or taken k 0) ones
    ∙ chosen-ones (get_or kept k 0) (get_or taken k 0) small small_too)

pub returns-clause-kept : goal.returns-clause-kept
returns-clause-kept c zeros =
    let kept : List ℕ = c.args.kept.now in
    let taken : List ℕ = c.args.taken.now in
    same_number_lists c.loop-i.byte-items kept (omega arith)
    (λ k within.
    let inside : k < c.loop-i.i = omega arith in
    c.loop-i.invariant.chosen k inside
    ∙ at_mask c.args.mask 0 (get_or kept k 0) (get_or taken k 0) zeros
    ∙ chosen-zeros (get_or kept k 0) (get_or taken k 0))
