use Rattle.std.proofs.Common.{◌≡◌, length, arith}
use Rattle.des_context.proofs.JoinedParts.{joined_parts}
use Rattle.des_context.proofs.mac_lists.macs_by.Goals as goal

pub returns-then-algorithm-eq3-clause-tags : goal.returns-then-algorithm-eq3-clause-tags
returns-then-algorithm-eq3-clause-tags g c =
    let three = c.if-algorithm-eq3.true in
    let size : length c.args.key.now ≡ 16 = grind (arith, c.requires, three) in
    let key = joined_parts c.args.key.now size in
    rw three (rw (c.key_part-first.ensures, c.key_part-second.ensures, key) at c.retail_macs_by.ensures.tags)
