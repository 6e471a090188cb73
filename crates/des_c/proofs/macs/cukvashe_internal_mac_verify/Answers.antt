use Rattle.std.proofs.Common.{rules}
use Rattle.des_c.proofs.macs.cukvashe_internal_mac_verify.Goals as goal

pub returns-clause-accepted : goal.returns-clause-accepted
returns-clause-accepted c padding key m is = search (rules, c.verify.ensures.accepted padding key m is)

pub returns-clause-refused : goal.returns-clause-refused
returns-clause-refused c padding key m is = search (rules, c.verify.ensures.refused padding key m is)
