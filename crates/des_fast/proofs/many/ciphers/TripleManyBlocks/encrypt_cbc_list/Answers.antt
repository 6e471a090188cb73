use Rattle.std.proofs.Common.{ℕ, List, ◌<◌, subst}
use Rattle.std.proofs.lemmas.List.Elements.{All-from_get_or}
use Rattle.des.specs.Cbc.{Cbc}
use Rattle.des_fast.proofs.RelatedTriples.{CbcUnder-triple}
use Rattle.des_fast.proofs.many.ciphers.TripleManyBlocks.encrypt_cbc_list.Goals as goal

pub returns-then-no_tables-clause-related : goal.returns-then-no_tables-clause-related
returns-then-no_tables-clause-related g c key made =
    CbcUnder-triple g.F.Form.DECIPHERS_SECOND (g.P.Parts.ciphers c.args.self.now.parts) g.P.Parts.has_three key made
    c.args.iv.now c.args.blocks.now c.cbc_encrypt.new.blocks
    (c.told-iv, All-from_get_or (λ byte. byte < 256) c.args.iv.now 0 (λ i within. c.fits-iv i)) c.cbc_encrypt.ensures.blocks
    (subst (λ (f : List ℕ → List ℕ). Cbc f c.args.iv.now c.args.blocks.now c.cbc_encrypt.new.blocks)
    c.encryption_passes-passes.ensures c.cbc_encrypt.ensures.chained)

pub returns-else-no_tables-clause-related : goal.returns-else-no_tables-clause-related
returns-else-no_tables-clause-related g c key made =
    CbcUnder-triple g.F.Form.DECIPHERS_SECOND (g.P.Parts.ciphers c.args.self.now.parts) g.P.Parts.has_three key made
    c.args.iv.now c.args.blocks.now c.cbc_encrypt-else-no_tables.new.blocks
    (c.told-iv, All-from_get_or (λ byte. byte < 256) c.args.iv.now 0 (λ i within. c.fits-iv i))
    c.cbc_encrypt-else-no_tables.ensures.blocks
    (subst (λ (f : List ℕ → List ℕ). Cbc f c.args.iv.now c.args.blocks.now c.cbc_encrypt-else-no_tables.new.blocks)
    c.encryption_passes-passes.ensures c.cbc_encrypt-else-no_tables.ensures.chained)
