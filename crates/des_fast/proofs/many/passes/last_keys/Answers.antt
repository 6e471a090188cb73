use Rattle.std.proofs.Common.{arith}
use Rattle.des_fast.proofs.ScheduledHalves.{keys_of-last}
use Rattle.des_fast.proofs.many.passes.last_keys.Goals as goal

pub returns : goal.returns
returns c =
    let schedule = c.args.pass.now.cipher.now.schedule in
    keys_of-last c.args.pass.now.deciphers schedule.round_keys c.index-round_keys-14.result
    c.index-round_keys-15.result (omega arith) schedule.scheduled
