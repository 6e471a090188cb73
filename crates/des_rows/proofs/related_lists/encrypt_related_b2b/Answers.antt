use Rattle.des.proofs.RelatedLists.{IsTheOne-map}
use Rattle.des_rows.proofs.MappedLists.{OnOk-more}
use Rattle.des_rows.proofs.related_lists.encrypt_related_b2b.Goals as goal

pub returns-clause-enciphered : goal.returns-clause-enciphered
returns-clause-enciphered g c key made =
    let cipher = c.args.cipher.now in
    OnOk-more c.encrypt_blocks_b2b.result
    (λ same. rw same
    (IsTheOne-map (g.C.BlockCipherEncrypt.encrypted cipher) (g.C.Relating.relation key)
    (g.met.C.Relating.encrypts_by_relation cipher key made) c.args.input.now c.encrypt_blocks_b2b.ensures.blocks))
    c.encrypt_blocks_b2b.ensures.ok
