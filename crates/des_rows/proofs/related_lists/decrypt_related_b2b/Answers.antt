use Rattle.des.proofs.RelatedLists.{IsTheOne-map_turned}
use Rattle.des_rows.proofs.MappedLists.{OnOk-more}
use Rattle.des_rows.proofs.related_lists.decrypt_related_b2b.Goals as goal

pub returns-clause-deciphered : goal.returns-clause-deciphered
returns-clause-deciphered g c key made =
    let cipher = c.args.cipher.now in
    OnOk-more c.decrypt_blocks_b2b.result
    (λ same. rw same
    (IsTheOne-map_turned (g.C.BlockCipherDecrypt.decrypted cipher) (g.C.Relating.relation key)
    (g.met.C.Relating.decrypts_by_relation cipher key made) c.args.input.now c.decrypt_blocks_b2b.ensures.blocks))
    c.decrypt_blocks_b2b.ensures.ok
