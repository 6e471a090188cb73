-- What a key of three parts encrypts by CBC are blocks, and of one plaintext.
use Rattle.std.proofs.Common.{◌≡◌, ℕ, ◌+◌, ◌-◌, ◌≤◌, List, [], length, get_or, sym, ◌∙◌, subst, arith}
use Rattle.std.specs.List.{All}
use Rattle.std.proofs.lemmas.List.{same_lists, get_or_default}
use Rattle.std.proofs.lemmas.List.Elements.{All-from_get_or}
use Rattle.des.specs.Blocks.{IsBlock}
use Rattle.des.specs.Cbc.{block_at, block_before, xor_blocks, Cbc, CbcDecrypts}
use Rattle.des.specs.TripleCiphers.{ede3_encryption, ede3_decryption}
use Rattle.des.proofs.ChainedBlocks.{CbcDecrypts-from_Cbc}
use Rattle.des_key_blocks.proofs.TagBlocks.{IsBlock-encryption, IsPass-encryption}

pub IsBlock-cbc : (key iv : List ℕ) (p q : List (List ℕ)) → Cbc (ede3_encryption key) iv p q → All IsBlock q
IsBlock-cbc key iv p q chained =
    All-from_get_or IsBlock q [] (λ k within.
    let this : k + 1 - 1 ≡ k = omega arith in
    let made : IsBlock (block_at q (k + 1)) =
    subst IsBlock (sym (chained.chained (k + 1) (omega arith) (omega (arith, chained.count))))
    (IsBlock-encryption key (xor_blocks (block_at p (k + 1)) (block_before iv q (k + 1)))) in
    subst (λ n. IsBlock (get_or q n [])) this made)

-- what is decrypted of a list by CBC is one list
decrypted-once : (decryption : List ℕ → List ℕ) (iv : List ℕ) (q p r : List (List ℕ)) → CbcDecrypts decryption iv q p
    → CbcDecrypts decryption iv q r → p ≡ r
decrypted-once decryption iv q p r first second =
    same_lists p r (first.count ∙ sym second.count) (λ k d within.
    let this : k + 1 - 1 ≡ k = omega arith in
    let to : k + 1 ≤ length q = omega (arith, first.count) in
    let same : block_at p (k + 1) ≡ block_at r (k + 1) =
    first.cbc_decrypted (k + 1) (omega arith) to ∙ sym (second.cbc_decrypted (k + 1) (omega arith) to) in
    let there : get_or p k [] ≡ get_or r k [] = subst (λ n. get_or p n [] ≡ get_or r n []) this same in
    get_or_default p k d [] within ∙ there ∙ get_or_default r k [] d (omega (arith, first.count, second.count)))

pub plaintext-once : (key iv : List ℕ) (p r q : List (List ℕ)) → IsBlock iv → All IsBlock p → All IsBlock r
    → Cbc (ede3_encryption key) iv p q → Cbc (ede3_encryption key) iv r q → p ≡ r
plaintext-once key iv p r q is_iv first_in second_in first second =
    let pass = IsPass-encryption key in
    let undo = λ (blocks : List (List ℕ)) (are : All IsBlock blocks) (chained : Cbc (ede3_encryption key) iv blocks q).
    CbcDecrypts-from_Cbc (ede3_encryption key) (ede3_decryption key) iv blocks q is_iv are pass.forth_is_block
    pass.back_forth chained in
    decrypted-once (ede3_decryption key) iv q p r (undo p first_in first) (undo r second_in second)
