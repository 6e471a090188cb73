use Rattle.std.proofs.Common.{[], ◌-◌, length, sym, arith, ◌∙◌}
use Rattle.des.proofs.ChainedPieces.{next_vector-last}
use Rattle.des.proofs.cbc.next_vector.Goals as goal

pub returns-in-Some : goal.returns-in-Some
returns-in-Some c =
    let last = c.in-Some.ensures.item.3 in
    last.1 [] ∙ sym (next_vector-last c.args.vector.now c.args.ciphertext.now (length c.args.ciphertext.now - 1)
    (omega (arith, last.0)))
