use Rattle.std.proofs.Common.{[], append-nil, refl, sym, Ok, Err}
use Rattle.des_commands.specs.LineKinds.{null_text}
use Rattle.des_commands.proofs.lines.answers.add_outcome.Goals as goal

pub returns-in-Empty : goal.returns-in-Empty
returns-in-Empty c = (Ok [], rw c.in-Empty.is refl, (refl, sym (append-nil c.args.out.now.items)))

pub returns-in_ok-extend_from_slice-in-Null : goal.returns-in_ok-extend_from_slice-in-Null
returns-in_ok-extend_from_slice-in-Null c =
    (Ok (null_text c.in-Null.word), rw c.in-Null.is refl, (refl, rw c.text.ensures at c.in_ok-extend_from_slice-in-Null.ensures.items))

pub returns-in-Faulty : goal.returns-in-Faulty
returns-in-Faulty c = (Err c.in-Faulty.fault, rw c.in-Faulty.is refl, (refl, refl))
