use Rattle.std.proofs.Common.{ℕ, ◌+◌, ◌<◌, get_or, arith, rules}
use Rattle.std.proofs.lemmas.List.Edits.{map_over_more}
use Rattle.des_payment.proofs.TextDigits.{get_or-mapped_front, below_at}
use Rattle.des_payment.proofs.texts.to_text.Goals as goal

pub overflow_add-digit : goal.overflow_add-digit
overflow_add-digit c =
    let i : ℕ = c.loop-digit.digit-index in
    let small : get_or c.args.digits.now i 0 < 10 = below_at 10 c.args.digits.now i c.requires (omega arith) in
    rw (get_or-mapped_front (λ (digit : ℕ). digit + 48) c.args.digits.now c.loop-digit.digits i (omega arith)
    c.loop-digit.invariant) (omega arith)

pub loop-digit-preserved : goal.loop-digit-preserved
loop-digit-preserved c =
    map_over_more (λ (digit : ℕ). digit + 48) c.args.digits.now c.loop-digit.digits c.loop-digit.digit-index
    (get_or c.loop-digit.digits c.loop-digit.digit-index 0) (search rules) c.loop-digit.invariant (search rules)
