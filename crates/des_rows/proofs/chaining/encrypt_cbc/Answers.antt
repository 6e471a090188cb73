use Rattle.std.proofs.Common.{ℕ, List, ◌<◌}
use Rattle.std.proofs.lemmas.List.Elements.{All-from_get_or}
use Rattle.des.specs.Blocks.{IsBlock}
use Rattle.des.proofs.ChainedBlocks.{CbcDecrypts-from_Cbc}
use Rattle.des_rows.proofs.chaining.encrypt_cbc.Goals as goal

-- decryption undoes encryption on each block, and the xor cancels
pub returns : goal.returns
returns g c =
    let cipher = c.args.cipher.now in
    let encryption = g.C.BlockCipherEncrypt.encrypted cipher in
    let decryption = g.C.BlockCipherDecrypt.decrypted cipher in
    let iv : List ℕ = c.args.iv.now in
    let is_iv : IsBlock iv = (c.told-iv, All-from_get_or (λ byte. byte < 256) iv 0 (λ i within. c.fits-iv i)) in
    CbcDecrypts-from_Cbc encryption decryption iv c.args.blocks.now c.encrypt.new.blocks
    is_iv c.encrypt.ensures.blocks
    (g.met.C.BlockCipher.encrypted_is_block cipher) (g.met.C.BlockCipher.decrypts_encrypted cipher)
    c.encrypt.ensures.chained
