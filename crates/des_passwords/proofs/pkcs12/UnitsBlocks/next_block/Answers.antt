use Rattle.std.proofs.Common.{◌<◌, length, arith}
use Rattle.des_passwords.specs.BmpStrings.{all_units}
use Rattle.des_passwords.proofs.CopiedTexts.{units_done, length-big_endian}
use Rattle.des_passwords.proofs.pkcs12.UnitsBlocks.next_block.Goals as goal

-- a unit more
pub returns-clause-block : goal.returns-clause-block
returns-clause-block c =
    let all = all_units c.args.self.now in
    let some : 0 < length all = omega (arith, c.requires, length-big_endian all) in
    units_done all _ _ c.units.block c.units.i some c.units.invariant.size
    (omega (arith, c.units-test.false, c.units.auto.i-end)) c.units.invariant.units
