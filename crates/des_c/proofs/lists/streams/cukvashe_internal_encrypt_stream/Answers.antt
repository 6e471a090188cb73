use Rattle.std.proofs.Common.{rules, w32}
use Rattle.std.proofs.lemmas.Int.{to_z-of_z}
use Rattle.des_c.proofs.lists.streams.cukvashe_internal_encrypt_stream.Goals as goal

pub returns-clause-bytes : goal.returns-clause-bytes
returns-clause-bytes c = rw (to_z-of_z w32 c.apply_stream.result (search rules)) c.apply_stream.ensures.bytes

pub returns-clause-bits : goal.returns-clause-bits
returns-clause-bits c = rw (to_z-of_z w32 c.apply_stream.result (search rules)) c.apply_stream.ensures.bits
