use Rattle.des.proofs.ParityBits.{count_ones-xor_one}
use Rattle.des.proofs.weak_key.byte_with_odd_parity.Goals as goal

pub returns-then-byte-eq0-clause-odd : goal.returns-then-byte-eq0-clause-odd
returns-then-byte-eq0-clause-odd c = count_ones-xor_one c.args.byte c.if-byte-eq0.true
