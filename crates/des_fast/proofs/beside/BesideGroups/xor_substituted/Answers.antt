use Rattle.std.proofs.Common.{◌+◌, arith}
use Rattle.des_fast.proofs.BesideWords.{word_beside-second}
use Rattle.des_fast.proofs.beside.BesideGroups.xor_substituted.Goals as goal

pub xor_substituted-requires-2 : goal.xor_substituted-requires-2
xor_substituted-requires-2 g c b within =
    rw word_beside-second at (c.requires (g.A.Groups.BLOCKS + b) (omega arith))
