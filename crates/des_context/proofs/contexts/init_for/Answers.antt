use Rattle.std.proofs.Common.{◌≡◌, ℕ, ◌*◌, List, length, ◌∙◌, arith}
use Rattle.des_context.specs.CipherTypes.{parts_of}
use Rattle.des_context.proofs.MadeContexts.{IsContextOf-written}
use Rattle.des_context.proofs.contexts.init_for.Goals as goal

pub returns-clause-made : goal.returns-clause-made
returns-clause-made c done =
    let key : List ℕ = c.args.key.now in
    let count : length key ≡ 8 * parts_of c.requires.0 = omega (arith, c.requires.1) in
    IsContextOf-written c.requires.0 c.write_parts.new.context key c.mark.result (count, c.are_bytes.ensures)
    (c.write_parts.auto.context ∙ c.requires.1) c.write_parts.ensures.made
