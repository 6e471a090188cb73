use Rattle.std.proofs.Common.{ℕ, List, ◌<◌}
use Rattle.std.proofs.lemmas.List.Elements.{All-from_get_or}
use Rattle.des.specs.Blocks.{IsBlock}
use Rattle.des.specs.Enciphering.{Enciphers}
use Rattle.des.specs.Laws.Passes.{IsGraphOf-alike}
use Rattle.des_fast.specs.Des.{encrypted, decrypted}
use Rattle.des_fast.specs.Laws.DesLaws.{IsPass-Des, Agree-encrypted}
use Rattle.des_fast.proofs.RelatedCbc.{CbcUnder-related_back}
use Rattle.des_fast.proofs.many.ciphers.DesManyBlocks.decrypt_cbc_list_by.Goals as goal

pub returns-clause-related : goal.returns-clause-related
returns-clause-related g c key made =
    let cipher = c.args.self.now in
    let pass = IsPass-Des cipher in
    let iv : List ℕ = c.args.iv.now in
    let is_iv : IsBlock iv = (c.told-iv, All-from_get_or (λ byte. byte < 256) iv 0 (λ i within. c.fits-iv i)) in
    CbcUnder-related_back (λ x y. Enciphers key x y) (encrypted cipher) (decrypted cipher)
    (IsGraphOf-alike (λ x y. Enciphers key x y) (Agree-encrypted cipher key made.0) made.1.0) iv
    c.cbc_decrypt_list.new.blocks c.args.blocks.now is_iv c.cbc_decrypt_list.ensures.blocks pass.back_is_block pass.forth_back
    (rw c.pass.ensures at c.cbc_decrypt_list.ensures.cbc_decrypted)
