use Rattle.des.proofs.RelatedLists.{IsTheOne-map}
use Rattle.des_rows.proofs.related_lists.encrypt_related.Goals as goal

pub returns : goal.returns
returns g c =
    let cipher = c.args.cipher.now in
    record {
      enciphered = λ key made.
          rw c.encrypt_blocks.ensures.encrypted
          (IsTheOne-map (g.C.BlockCipherEncrypt.encrypted cipher) (g.C.Relating.relation key)
          (g.met.C.Relating.encrypts_by_relation cipher key made) c.args.blocks.now c.encrypt_blocks.ensures.blocks);
    }
