use Rattle.std.proofs.Common.{sym, arith}
use Rattle.des_passwords.proofs.PasswordUnits.{units_of_bytes}
use Rattle.des_passwords.proofs.bmp_string.byte_count.Goals as goal

pub returns-clause-count : goal.returns-clause-count
returns-clause-count c = sym (units_of_bytes c.args.bytes.now (λ i. omega (arith, c.type_inv.bytes i)))
