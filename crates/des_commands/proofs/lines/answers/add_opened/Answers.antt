use Rattle.std.proofs.Common.{ℤ, refl, subst, Some, Err}
use Rattle.std.proofs.Math.Facts.{to_z-of_z}
use Rattle.des_commands.specs.LineAnswers.{IsFaultOf}
use Rattle.des_commands.proofs.lines.answers.add_opened.Goals as goal

pub returns-in-Some : goal.returns-in-Some
returns-in-Some c =
    let is : IsFaultOf c.args.status (Some c.in-Some.fault) =
    subst (λ (status : ℤ). IsFaultOf status (Some c.in-Some.fault)) (to_z-of_z c.ranges.status)
    (rw c.in-Some.is at c.fault_of.ensures) in
    (Err c.in-Some.fault, (Some c.in-Some.fault, is, refl), (refl, refl))
