use Rattle.std.proofs.Common.{ℕ, List, [], take, ap, ◌∙◌}
use Rattle.des_payment.proofs.emv.response_2.Goals as goal

-- the state stands for all three, one after the other
pub returns-clause-response : goal.returns-clause-response
returns-clause-response c =
    let session : List ℕ = c.args.session.now in
    let start = rw c.unwrap-state.ensures at c.new_from_slice.ensures.made in
    let first = c.update.ensures session [] start in
    let second = c.update-2.ensures session _ first in
    let third = c.update-3.ensures session _ second in
    c.first_four.ensures ∙ ap (take 4) (c.finalize.ensures session _ third)
