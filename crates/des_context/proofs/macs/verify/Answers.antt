use Rattle.std.proofs.Common.{rules}
use Rattle.des_context.proofs.macs.verify.Goals as goal

pub tag-requires : goal.tag-requires
tag-requires c = c.requires.sound (rw c.cbc_words.ensures at (c.opened.ensures.marked.0 (search rules)))
