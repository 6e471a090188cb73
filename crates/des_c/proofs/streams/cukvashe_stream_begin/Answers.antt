use Rattle.std.proofs.Common.{rules, w32}
use Rattle.std.proofs.lemmas.Int.{to_z-of_z}
use Rattle.des_c.proofs.streams.cukvashe_stream_begin.Goals as goal

pub returns-clause-begun : goal.returns-clause-begun
returns-clause-begun c = rw (to_z-of_z w32 c.begin.result (search rules)) c.begin.ensures.begun

pub returns-clause-begun_bits : goal.returns-clause-begun_bits
returns-clause-begun_bits c = rw (to_z-of_z w32 c.begin.result (search rules)) c.begin.ensures.begun_bits
