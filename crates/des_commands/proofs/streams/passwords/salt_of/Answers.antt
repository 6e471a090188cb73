use Rattle.std.proofs.lemmas.Result.{err_from_is_err_and}
use Rattle.des_commands.proofs.streams.passwords.salt_of.Goals as goal

-- no salt was read
pub returns-in_err-read_salt-clause-fault : goal.returns-in_err-read_salt-clause-fault
returns-in_err-read_salt-clause-fault g c =
    let p = err_from_is_err_and c.from_residual.result c.from_residual.ensures.1 in
    rw (p.1, p.2) ((c.if-job.false, c.if-job-2.true), c.in_err-read_salt.ensures.fault)
