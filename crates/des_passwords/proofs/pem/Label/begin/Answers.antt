use Rattle.std.proofs.Common.{sym, ap}
use Rattle.des_passwords.specs.Pem.{begin_line}
use Rattle.des_passwords.proofs.pem.Label.begin.Goals as goal

pub returns-in-Encrypted : goal.returns-in-Encrypted
unfolding begin_line
returns-in-Encrypted c = ap begin_line (sym c.in-Encrypted.is)

pub returns-in-Rsa : goal.returns-in-Rsa
unfolding begin_line
returns-in-Rsa c = ap begin_line (sym c.in-Rsa.is)

pub returns-in-Dsa : goal.returns-in-Dsa
unfolding begin_line
returns-in-Dsa c = ap begin_line (sym c.in-Dsa.is)

pub returns-in-Ec : goal.returns-in-Ec
unfolding begin_line
returns-in-Ec c = ap begin_line (sym c.in-Ec.is)
