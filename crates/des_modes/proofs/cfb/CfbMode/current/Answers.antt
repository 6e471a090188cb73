use Rattle.std.proofs.Common.{arith}
use Rattle.des_modes.proofs.CfbPlaces.{input_block-next}
use Rattle.des_modes.proofs.cfb.CfbMode.current.Goals as goal

pub returns-then-place-eq0 : goal.returns-then-place-eq0
returns-then-place-eq0 g c iv d is =
    rw (← input_block-next is (omega arith) c.args.self.now.some c.if-place-eq0.true) c.encrypt_block.ensures
