use Rattle.std.proofs.Common.{◌≡◌, ℕ, ◌<◌, List, [], length, take, get_or, replicate, ◌∙◌, arith}
use Rattle.std.proofs.lemmas.List.{get_or-replicate, get_or-take, length-replicate, length-take-le}
use Rattle.std.proofs.lemmas.List.Elements.{All-drop, All-get_or, All-take}
use Rattle.des.specs.Blocks.{IsBlock}
use Rattle.des_fast.specs.Records.{record_of}
use Rattle.des_fast.proofs.RelatedCbc.{CbcUnder-related}
use Rattle.des_columns.proofs.Results.{on-ok}
use Rattle.des_columns.proofs.RelatedRecords.{each-record}
use Rattle.des_columns.proofs.writing.Writer.encrypt_records.Goals as goal

pub returns-in-Ecb : goal.returns-in-Ecb
returns-in-Ecb g c = λ key k made below.
    rw c.in-Ecb.is (each-record (g.C.Relating.relation key) c.args.sizes.now c.args.blocks.now c.encrypt_list_by.new.blocks k
    (c.encrypt_list_by.ensures.processed key made).0)

pub returns-in-Cbc : goal.returns-in-Cbc
returns-in-Cbc g c = λ key k made below.
    let sizes : List ℕ = c.args.sizes.now in
    let old : List (List ℕ) = c.args.blocks.now in
    let new : List (List ℕ) = c.encrypt_cbc_records.new.blocks in
    let iv : List ℕ = c.in-Cbc.iv in
    let cipher = c.args.self.now.cipher in
    let ensured = c.encrypt_cbc_records.ensures in
    let Relates : List ℕ → List ℕ → Type 0 = g.C.Relating.relation key in
    let vectors : List (List ℕ) = take (length sizes) (replicate 256 iv) in
    let count : length vectors ≡ length sizes =
    length-take-le (length sizes) (replicate 256 iv) (omega (arith, c.requires.count, length-replicate 256 iv)) in
    let there : k < length vectors = omega (arith, below, count) in
    let vector : get_or vectors k [] ≡ iv =
    get_or-take (length sizes) (replicate 256 iv) k [] below ∙ get_or-replicate 256 k iv [] (omega (arith, below, c.requires.count)) in
    let chained = on-ok c.encrypt_cbc_records.result _ (ensured.accepted.1 (count, c.requires.whole)) ensured.chained in
    rw c.in-Cbc.is (rw vector at
    (CbcUnder-related Relates (g.C.BlockCipherEncrypt.encrypted cipher) (g.met.C.Relating.encrypts_by_relation cipher key made)
    (get_or vectors k []) (record_of sizes old k) (record_of sizes new k) (All-get_or IsBlock vectors k [] there ensured.vectors)
    (All-take IsBlock _ _ (All-drop IsBlock _ _ ensured.blocks)) (g.met.C.BlockCipher.encrypted_is_block cipher)
    (chained (g.C.BlockCipherEncrypt.encrypted cipher) (g.C.BlockCipherDecrypt.decrypted cipher) c.requires.keys k there)))
