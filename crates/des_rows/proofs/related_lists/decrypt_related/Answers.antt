use Rattle.des.proofs.RelatedLists.{IsTheOne-map_turned}
use Rattle.des_rows.proofs.related_lists.decrypt_related.Goals as goal

pub returns : goal.returns
returns g c =
    let cipher = c.args.cipher.now in
    record {
      deciphered = λ key made.
          rw c.decrypt_blocks.ensures.decrypted
          (IsTheOne-map_turned (g.C.BlockCipherDecrypt.decrypted cipher) (g.C.Relating.relation key)
          (g.met.C.Relating.decrypts_by_relation cipher key made) c.args.blocks.now c.decrypt_blocks.ensures.blocks);
    }
