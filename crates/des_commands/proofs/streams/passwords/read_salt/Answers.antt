use Rattle.std.proofs.Common.{take, inl, inr, refl, ap, arith, Err}
use Rattle.std.proofs.lemmas.List.{length-take}
use Rattle.des_commands.proofs.streams.passwords.read_salt.Goals as goal

-- the bytes begin otherwise
pub returns-in-Err-NotSalted-clause-fault : goal.returns-in-Err-NotSalted-clause-fault
returns-in-Err-NotSalted-clause-fault g c =
    let read = c.in_ok-count.ensures in
    inl (
      take c.in_ok-count.count c.fill.new.buffer,
      (
        read.read,
        λ short. read.end (omega (arith, short, length-take c.in_ok-count.count c.fill.new.buffer)),
        c.in-Err-NotSalted.ensures.not_salted.0 (ap Err c.in-Err-NotSalted.field-0-is),
        refl,
      ),
    )

-- they end within the salt, and the reader is at its end
pub returns-in-Err-SaltCut-clause-fault : goal.returns-in-Err-SaltCut-clause-fault
returns-in-Err-SaltCut-clause-fault g c =
    let read = c.in_ok-count.ensures in
    let cut = c.in-Err-SaltCut.ensures.cut.0 (ap Err c.in-Err-SaltCut.field-0-is) in
    inr (inl (
      take c.in_ok-count.count c.fill.new.buffer,
      (
        read.read,
        read.end (omega (arith, cut.1, length-take c.in_ok-count.count c.fill.new.buffer)),
        cut.0,
        cut.1,
        refl,
      ),
    ))
