use Rattle.des.specs.Enciphering.{Enciphers}
use Rattle.des.specs.Laws.Passes.{IsGraphOf-alike}
use Rattle.des.proofs.RelatedLists.{IsTheOne-map}
use Rattle.des_fast.specs.Des.{encrypted}
use Rattle.des_fast.specs.Laws.DesLaws.{Agree-encrypted}
use Rattle.des_fast.proofs.many.ciphers.DesManyBlocks.encrypt_list_by.Goals as goal

pub returns-clause-processed : goal.returns-clause-processed
returns-clause-processed g c key made =
    let cipher = c.args.self.now in
    rw (c.process_list.ensures.processed, c.pass.ensures)
    (IsTheOne-map (encrypted cipher) (λ x y. Enciphers key x y)
    (IsGraphOf-alike (λ x y. Enciphers key x y) (Agree-encrypted cipher key made.0) made.1.0)
    c.args.blocks.now c.process_list.ensures.blocks)
