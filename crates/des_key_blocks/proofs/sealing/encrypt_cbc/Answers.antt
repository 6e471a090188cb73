use Rattle.std.proofs.Common.{◌≡◌, ℕ, ◌<◌, List, length, sym, subst, ap, ◌∙◌}
use Rattle.std.proofs.lemmas.List.Elements.{All-from_get_or}
use Rattle.des.specs.Blocks.{AreBytes, IsBlock}
use Rattle.des.proofs.ChainedBlocks.{CbcUnder-from_Cbc}
use Rattle.des_key_blocks.proofs.KeyedCbc.{Cbc-by_key}
use Rattle.des_key_blocks.proofs.sealing.encrypt_cbc.Goals as goal

-- the cipher is made from the key, so it encrypts as the key does
pub returns : goal.returns
returns g c =
    let key : List ℕ = g.C.Key.KeyBytes.bytes_of c.args.key.now in
    let iv : List ℕ = c.args.vector.now in
    let cipher = c.new.result in
    let encrypts : List ℕ → List ℕ = g.C.BlockCipherEncrypt.encrypted cipher in
    let by_key : List ℕ → List ℕ = g.C.KeyedCipher.encryption key in
    let is_iv : IsBlock iv = (c.told-vector, All-from_get_or (λ byte. byte < 256) iv 0 (λ i within. c.fits-vector i)) in
    let count : length key ≡ g.C.KeySizeUser.KEY_SIZE =
    sym (ap length c.as_bytes.ensures.bytes) ∙ c.as_bytes.ensures.count ∙ sym g.met.C.KeySizeUser.key_size_is_len in
    let bytes : AreBytes key = subst AreBytes c.as_bytes.ensures.bytes c.as_bytes.ensures.are_bytes in
    Cbc-by_key encrypts by_key iv c.args.blocks.now c.encrypt.new.blocks
    (λ block is_block. g.met.C.KeyedCipher.encrypts_by_key cipher key block (count, bytes) c.new.ensures is_block)
    (CbcUnder-from_Cbc encrypts iv c.args.blocks.now c.encrypt.new.blocks is_iv c.encrypt.ensures.blocks
    (g.met.C.BlockCipher.encrypted_is_block cipher) c.encrypt.ensures.chained)
