use Rattle.std.proofs.Common.{rules}
use Rattle.std.proofs.lemmas.List.Edits.{map_over_more}
use Rattle.des.proofs.cipher.BlockCipherDecrypt.decrypt_blocks.Goals as goal

pub loop-block-preserved : goal.loop-block-preserved
loop-block-preserved g c = search (rules, map_over_more (g.Self.BlockCipherDecrypt.decrypted c.args.self.now))
