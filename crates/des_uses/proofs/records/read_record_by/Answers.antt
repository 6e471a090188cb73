use Rattle.std.proofs.Common.{ℕ, List, ◌<◌, refl, rules}
use Rattle.std.proofs.lemmas.List.Elements.{All-from_get_or}
use Rattle.des.specs.Blocks.{AreBytes, IsBlock}
use Rattle.des_uses.proofs.KeyedCbc.{CbcUnder-by_key}
use Rattle.des_uses.proofs.records.read_record_by.Goals as goal

-- the cipher is made from the key, so it decrypts as the key does
pub returns-clause-read : goal.returns-clause-read
returns-clause-read g c =
    let key : List ℕ = c.args.key.now in
    let iv : List ℕ = c.args.iv.now in
    let cipher = c.in_ok-cipher.cipher in
    let is_iv : IsBlock iv = (c.told-iv, All-from_get_or (λ byte. byte < 256) iv 0 (λ i within. c.fits-iv i)) in
    let bytes : AreBytes key = All-from_get_or (λ byte. byte < 256) key 0 (λ i within. search rules) in
    CbcUnder-by_key (g.C.BlockCipherEncrypt.encrypted cipher) (g.C.BlockCipherDecrypt.decrypted cipher)
    (g.C.KeyedCipher.encryption key) iv c.decrypt.new.blocks c.args.blocks.now is_iv c.decrypt.ensures.blocks
    (g.met.C.BlockCipher.decrypted_is_block cipher) (g.met.C.BlockCipher.encrypts_decrypted cipher)
    (λ block is_block. g.met.C.KeyedCipher.encrypts_by_key cipher key block
    (c.in_ok-cipher.ensures.accepted.0 refl, bytes) c.in_ok-cipher.ensures.made is_block)
    c.decrypt.ensures.cbc_decrypted
