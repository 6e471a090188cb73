use Rattle.std.proofs.Common.{rules}
use Rattle.std.proofs.lemmas.List.Edits.{map_over_more}
use Rattle.des.proofs.cipher.BlockCipherEncrypt.encrypt_blocks.Goals as goal

pub loop-block-preserved : goal.loop-block-preserved
loop-block-preserved g c = search (rules, map_over_more (g.Self.BlockCipherEncrypt.encrypted c.args.self.now))
