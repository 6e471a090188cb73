use Rattle.std.proofs.Common.{ℕ, List, ◌<◌}
use Rattle.std.proofs.lemmas.List.Elements.{All-from_get_or}
use Rattle.des.specs.Blocks.{IsBlock}
use Rattle.des.proofs.ChainedBlocks.{Cbc-from_CbcDecrypts}
use Rattle.des_rows.proofs.chaining.decrypt_cbc.Goals as goal

-- the xor cancels, and encryption undoes decryption on each block
pub returns : goal.returns
returns g c =
    let cipher = c.args.cipher.now in
    let encryption = g.C.BlockCipherEncrypt.encrypted cipher in
    let decryption = g.C.BlockCipherDecrypt.decrypted cipher in
    let iv : List ℕ = c.args.iv.now in
    let is_iv : IsBlock iv = (c.told-iv, All-from_get_or (λ byte. byte < 256) iv 0 (λ i within. c.fits-iv i)) in
    Cbc-from_CbcDecrypts encryption decryption iv c.decrypt.new.blocks c.args.blocks.now
    is_iv c.decrypt.ensures.blocks
    (g.met.C.BlockCipher.decrypted_is_block cipher) (g.met.C.BlockCipher.encrypts_decrypted cipher)
    c.decrypt.ensures.cbc_decrypted
