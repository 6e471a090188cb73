use Rattle.std.proofs.Common.{ℕ, ◌*◌, ◌-◌, arith}
use Rattle.std.proofs.lemmas.Slice.{take-put_mid_below}
use Rattle.des_context.proofs.PartWords.{words-kept}
use Rattle.des_context.proofs.contexts.write_part.Goals as goal

pub returns-clause-kept : goal.returns-clause-kept
returns-clause-kept c n from before =
    let start : ℕ = 16 * (c.args.number - 1) in
    words-kept n _ c.args.context.now (take-put_mid_below start (16 * c.args.number - start) c.args.context.now
    c.copy_from_slice.new.self (16 * n) (omega (arith, before, from)) (omega (arith, c.requires.capacity)))
