use Rattle.std.proofs.Common.{ℕ, List, [], drop, slice_index, slice_index_or}
use Rattle.std.proofs.lemmas.List.Elements.{All-take, All-drop, All-get_or}
use Rattle.des.specs.Blocks.{IsBlock}
use Rattle.des.proofs.ChainedBlocks.{Cbc-from_CbcDecrypts}
use Rattle.des_fast.specs.Records.{start, record_of}
use Rattle.des_uses.proofs.spread_records.read_records.Goals as goal

-- the keys are those of the cipher, whose encryption undoes its decryption
pub returns-clause-read : goal.returns-clause-read
returns-clause-read g c k below =
    let cipher = c.args.cipher.now in
    let sizes : List ℕ = c.args.sizes.now in
    let vectors : List (List ℕ) = c.args.vectors.now in
    let q : List (List ℕ) = c.args.blocks.now in
    let ensured = c.in_ok-decrypt_cbc_records.ensures in
    Cbc-from_CbcDecrypts (g.C.BlockCipherEncrypt.encrypted cipher) (g.C.BlockCipherDecrypt.decrypted cipher)
    (slice_index_or vectors k []) (record_of sizes c.decrypt_cbc_records.new.blocks k) (record_of sizes q k)
    (All-get_or IsBlock vectors k [] below ensured.vectors)
    (All-take IsBlock (slice_index sizes k) (drop (start sizes k) q) (All-drop IsBlock (start sizes k) q ensured.blocks))
    (g.met.C.BlockCipher.decrypted_is_block cipher) (g.met.C.BlockCipher.encrypts_decrypted cipher)
    (ensured.cbc_decrypted (g.C.BlockCipherEncrypt.encrypted cipher) (g.C.BlockCipherDecrypt.decrypted cipher)
    c.spread_keys-keys.ensures k below)

pub returns-clause-goes_on : goal.returns-clause-goes_on
returns-clause-goes_on g c =
    c.in_ok-decrypt_cbc_records.ensures.goes_on (g.C.BlockCipherEncrypt.encrypted c.args.cipher.now)
    (g.C.BlockCipherDecrypt.decrypted c.args.cipher.now)
    c.spread_keys-keys.ensures
