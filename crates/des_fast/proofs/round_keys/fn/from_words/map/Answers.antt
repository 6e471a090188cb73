use Rattle.std.proofs.Common.{arith}
use Rattle.des.proofs.LinearUnder.{and-same}
use Rattle.des_fast.proofs.KeptRoundKeys.{bits_of_groups-mask}
use Rattle.des_fast.proofs.round_keys.fn.from_words.map.Goals as goal

pub invariant_of-result : goal.invariant_of-result
invariant_of-result c = record { of_groups = and-same c.args.word 0x3f3f3f3f3f3f3f3f }

pub returns : goal.returns
returns c = bits_of_groups-mask c.args.word (omega arith)
