use Rattle.std.proofs.Common.{ℕ, ◌-◌, get_or, arith, rules}
use Rattle.std.proofs.lemmas.List.Edits.{map_over_more}
use Rattle.des_payment.proofs.TextDigits.{get_or-mapped_front, digit_at}
use Rattle.des_payment.proofs.texts.to_values.Goals as goal

pub overflow_sub-character : goal.overflow_sub-character
overflow_sub-character c =
    let i : ℕ = c.loop-character.character-index in
    let bounds = digit_at c.args.text.now i c.requires (omega arith) in
    rw (get_or-mapped_front (λ (digit : ℕ). digit - 48) c.args.text.now c.loop-character.text i (omega arith)
    c.loop-character.invariant) bounds.0

pub loop-character-preserved : goal.loop-character-preserved
loop-character-preserved c =
    map_over_more (λ (digit : ℕ). digit - 48) c.args.text.now c.loop-character.text c.loop-character.character-index
    (get_or c.loop-character.text c.loop-character.character-index 0) (search rules) c.loop-character.invariant
    (search rules)
