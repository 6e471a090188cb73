use Rattle.std.proofs.Common.{List, ℕ, ◌++◌, ap, ap₂, ◌∙◌}
use Rattle.des_payment.specs.Dukpt.{next_half, next_key}
use Rattle.des_payment.proofs.dukpt.next_key.Goals as goal

pub returns : goal.returns
unfolding next_key
returns c =
    c.joined.ensures
    ∙ ap₂ (λ (left right : List ℕ). left ++ right)
    (c.next_half-left.ensures ∙ ap (next_half c.args.register) c.masked.ensures)
    c.next_half.ensures
