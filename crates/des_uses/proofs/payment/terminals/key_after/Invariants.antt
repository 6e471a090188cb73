-- The terminal has the future keys of the initial key, after each transaction.
use Rattle.des_payment.specs.Dukpt.{last_bytes}
use Rattle.des_payment.specs.Terminals.{HasFutureKeys}
use Rattle.des_uses.proofs.payment.terminals.key_after.Given as goal

abbrev pub invariant-others : goal.invariant-others
invariant-others l = HasFutureKeys l.initial' (last_bytes l.terminal.serial) l.terminal.keys
