use Rattle.std.proofs.Common.{ℕ, List, ◌<◌, subst}
use Rattle.std.proofs.lemmas.List.Elements.{All-from_get_or}
use Rattle.des.specs.Blocks.{IsBlock}
use Rattle.des.specs.Cbc.{CbcDecrypts}
use Rattle.des.specs.Triple.{EnciphersTriple}
use Rattle.des.specs.TripleCiphers.{triple_encrypted, triple_decrypted}
use Rattle.des_fast.specs.Des.{encrypted, decrypted}
use Rattle.des_fast.proofs.RelatedCbc.{CbcUnder-related_back}
use Rattle.des_fast.proofs.RelatedTriples.{IsPass-triple, encrypts-triple}
use Rattle.des_fast.proofs.many.ciphers.TripleManyBlocks.decrypt_cbc_list_by.Goals as goal

pub returns-clause-related : goal.returns-clause-related
returns-clause-related g c key made =
    let ciphers = g.P.Parts.ciphers c.args.self.now.parts in
    let deciphers = g.F.Form.DECIPHERS_SECOND in
    let pass = IsPass-triple deciphers ciphers in
    let iv : List ℕ = c.args.iv.now in
    let is_iv : IsBlock iv = (c.told-iv, All-from_get_or (λ byte. byte < 256) iv 0 (λ i within. c.fits-iv i)) in
    CbcUnder-related_back (λ x y. EnciphersTriple g.P.Parts.has_three deciphers key x y)
    (triple_encrypted encrypted decrypted deciphers ciphers) (triple_decrypted encrypted decrypted deciphers ciphers)
    (encrypts-triple deciphers ciphers g.P.Parts.has_three key made) iv c.cbc_decrypt_list.new.blocks c.args.blocks.now is_iv
    c.cbc_decrypt_list.ensures.blocks pass.back_is_block pass.forth_back
    (subst (λ (f : List ℕ → List ℕ). CbcDecrypts f iv c.args.blocks.now c.cbc_decrypt_list.new.blocks) c.decryption_passes.ensures
    c.cbc_decrypt_list.ensures.cbc_decrypted)
