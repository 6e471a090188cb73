use Rattle.std.proofs.Common.{ℕ, List, ◌<◌}
use Rattle.std.proofs.lemmas.List.Elements.{All-from_get_or}
use Rattle.des.specs.Blocks.{IsBlock}
use Rattle.des.specs.Des.{encryption}
use Rattle.des.specs.Enciphering.{Enciphers}
use Rattle.des.specs.Relations.{TakesBlock}
use Rattle.des.proofs.ChainedBlocks.{CbcUnder-weaker}
use Rattle.des_fast.specs.Des.{encrypted, decrypted}
use Rattle.des_fast.specs.Laws.DesLaws.{IsPass-Des, Agree-encrypted}
use Rattle.des_uses.proofs.KeyedCbc.{CbcUnder-by_key}
use Rattle.des_uses.proofs.fast_lists.decrypt_cbc_by_fast_des.Goals as goal

-- what the key's encryption takes a block to is what its relation does
pub returns : goal.returns
returns c =
    let key : List ℕ = c.args.key.now in
    let iv : List ℕ = c.args.iv.now in
    let cipher = c.new-cipher.result in
    let pass = IsPass-Des cipher in
    let is_iv : IsBlock iv = (c.told-iv, All-from_get_or (λ byte. byte < 256) iv 0 (λ i within. c.fits-iv i)) in
    CbcUnder-weaker (TakesBlock (encryption key)) (λ x y. Enciphers key x y) iv c.decrypt_cbc.new.blocks c.args.blocks.now
    (λ x y. (c.new-cipher.ensures.encryption x y).1)
    (CbcUnder-by_key (encrypted cipher) (decrypted cipher) (encryption key) iv c.decrypt_cbc.new.blocks c.args.blocks.now
    is_iv c.decrypt_cbc.ensures.blocks pass.back_is_block pass.forth_back
    (Agree-encrypted cipher key c.new-cipher.ensures.made).at c.decrypt_cbc.ensures.cbc_decrypted)
