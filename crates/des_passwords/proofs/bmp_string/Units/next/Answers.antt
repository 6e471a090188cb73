use Rattle.std.proofs.Common.{ap, ◌++◌, ℕ, Option}
use Rattle.des_passwords.specs.BmpStrings.{characters_left, second_of}
use Rattle.des_passwords.specs.Pkcs12.{units_of}
use Rattle.des_passwords.proofs.PasswordUnits.{next_second}
use Rattle.des_passwords.proofs.bmp_string.Units.next.Goals as goal

pub returns-in-Some-clause-next : goal.returns-in-Some-clause-next
returns-in-Some-clause-next c = λ n.
    next_second _ _ _ _ n
    (ap (λ (second : Option ℕ). second_of second ++ units_of (characters_left c.args.self.now.rest)) c.in-Some.is)
