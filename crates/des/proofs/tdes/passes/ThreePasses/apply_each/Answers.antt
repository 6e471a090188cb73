use Rattle.std.proofs.Common.{rules}
use Rattle.std.proofs.lemmas.List.Edits.{map_over_more}
use Rattle.des.specs.TripleCiphers.{thrice_passed}
use Rattle.des.proofs.tdes.passes.ThreePasses.apply_each.Goals as goal

pub loop-block-preserved : goal.loop-block-preserved
loop-block-preserved g c =
    search (
      rules,
      map_over_more
          (thrice_passed g.D.BlockCipherEncrypt.encrypted g.D.BlockCipherDecrypt.decrypted c.args.self.now),
    )
