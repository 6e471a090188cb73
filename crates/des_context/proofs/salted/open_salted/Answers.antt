use Rattle.std.proofs.Common.{inl, ℕ, List, ◌*◌, ◌+◌, ◌≤◌, arith, rules, replicate, length-take-le}
use Rattle.std.proofs.lemmas.Int.{to_z-of_z}
use Rattle.des_context.proofs.OpenedBlocks.{Opens-refused}
use Rattle.des_context.proofs.PasswordParts.{under-no-fault, Opens-salted}
use Rattle.des_context.proofs.salted.open_salted.Goals as goal
use mir.Syntax.{w32}
use mir.Val.{SFits}

pub returns-in-Err : goal.returns-in-Err
returns-in-Err c =
    let fits : SFits w32 c.in-Err.status = search rules in
    simp to_z-of_z (Opens-refused c.in-Err.ensures.refused (inl c.in-Err.ensures.fault) (λ text holds.
    absurd (under-no-fault holds.under c.in-Err.status c.in-Err.ensures.fault)))

pub returns : goal.returns
returns c =
    let fits : SFits w32 c.open_blocks.result = search rules in
    let words : List ℕ = replicate 49 0 in
    let narrow : 2 * c.args.key_size + 1 ≤ 49 = grind (arith, c.requires) in
    simp to_z-of_z (Opens-salted c.in-Ok.ensures.parts (c.open_blocks.ensures _ (c.init.ensures.made
    (c.init.ensures.accepted.1 (omega (
      arith,
      c.in-Ok.ensures.parts.size_of_key,
      length-take-le (2 * c.args.key_size + 1) words narrow,
    ))))))
