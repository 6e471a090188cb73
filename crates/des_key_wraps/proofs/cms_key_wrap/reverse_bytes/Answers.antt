use Rattle.std.proofs.Common.{rules, reverse, ℕ}
use Rattle.std.proofs.lemmas.List.Edits.{map_over_more}
use Rattle.des_key_wraps.proofs.cms_key_wrap.reverse_bytes.Goals as goal

pub loop-block-preserved : goal.loop-block-preserved
loop-block-preserved c = search (rules, map_over_more (reverse {A = ℕ}))
