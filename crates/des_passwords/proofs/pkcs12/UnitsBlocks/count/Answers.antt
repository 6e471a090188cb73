use Rattle.std.proofs.Common.{arith}
use Rattle.des_passwords.specs.BmpStrings.{all_units}
use Rattle.des_passwords.proofs.CopiedTexts.{length-big_endian}
use Rattle.des_passwords.proofs.pkcs12.UnitsBlocks.count.Goals as goal

pub returns : goal.returns
returns c = omega (arith, c.count.ensures.count, length-big_endian (all_units c.args.self.now))
