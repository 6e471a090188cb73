use Rattle.des.specs.Triple.{EnciphersTriple}
use Rattle.des.specs.TripleCiphers.{triple_decrypted}
use Rattle.des.proofs.RelatedLists.{IsTheOne-map_turned}
use Rattle.des_fast.specs.Des.{encrypted, decrypted}
use Rattle.des_fast.proofs.RelatedTriples.{decrypts-triple}
use Rattle.des_fast.proofs.many.ciphers.TripleManyBlocks.decrypt_list_by.Goals as goal

pub returns-clause-processed : goal.returns-clause-processed
returns-clause-processed g c key made =
    let ciphers = g.P.Parts.ciphers c.args.self.now.parts in
    let deciphers = g.F.Form.DECIPHERS_SECOND in
    rw (c.process_list.ensures.processed, c.decryption_passes.ensures)
    (IsTheOne-map_turned (triple_decrypted encrypted decrypted deciphers ciphers)
    (λ x y. EnciphersTriple g.P.Parts.has_three deciphers key x y)
    (decrypts-triple deciphers ciphers g.P.Parts.has_three key made) c.args.blocks.now c.process_list.ensures.blocks)
