-- Lists out of their chain as a computation.
use Rattle.std.proofs.Common.{◌≡◌, ℕ, zero, suc, ◌+◌, ◌-◌, ◌<◌, List, [], ◌∷◌, length, get_or, refl, ap, sym, ◌∙◌, arith}
use Rattle.std.proofs.lemmas.List.{ext_get_or}
use Rattle.des.specs.Cbc.{xor_blocks, block_at, block_before, CbcDecrypts}

-- each block deciphered, xor the block before it
abbrev pub cbc_decrypted : (List ℕ → List ℕ) → List ℕ → List (List ℕ) → List (List ℕ)
cbc_decrypted f iv [] = []
cbc_decrypted f iv (block ∷ blocks) = xor_blocks (f block) iv ∷ cbc_decrypted f block blocks

-- one block at a time, from index 0
cbc_decrypted-at : (f : List ℕ → List ℕ) (iv : List ℕ) (blocks : List (List ℕ)) (k : ℕ) → k < length blocks
    → get_or (cbc_decrypted f iv blocks) k [] ≡ xor_blocks (f (get_or blocks k [])) (get_or (iv ∷ blocks) k [])
cbc_decrypted-at f iv [] k below = absurd (omega arith)
cbc_decrypted-at f iv (block ∷ blocks) zero below = refl
cbc_decrypted-at f iv (block ∷ blocks) (suc k) below = cbc_decrypted-at f block blocks k (omega arith)

-- there are as many
length-cbc_decrypted : (f : List ℕ → List ℕ) (iv : List ℕ) (blocks : List (List ℕ))
    → length (cbc_decrypted f iv blocks) ≡ length blocks
length-cbc_decrypted f iv [] = refl
length-cbc_decrypted f iv (block ∷ blocks) = ap suc (length-cbc_decrypted f block blocks)

-- the list computed is out of the chain
pub CbcDecrypts-cbc_decrypted : (f : List ℕ → List ℕ) (iv : List ℕ) (blocks answers : List (List ℕ))
    → answers ≡ cbc_decrypted f iv blocks → CbcDecrypts f iv blocks answers
CbcDecrypts-cbc_decrypted f iv blocks answers same = record {
  count = ap length same ∙ length-cbc_decrypted f iv blocks;
  cbc_decrypted = λ n from within.
      ap (λ (xs : List (List ℕ)). get_or xs (n - 1) []) same ∙ cbc_decrypted-at f iv blocks (n - 1) (omega arith);
}

-- the list out of the chain is the one computed
pub cbc_decrypted-from : (f : List ℕ → List ℕ) (iv : List ℕ) (blocks answers : List (List ℕ)) → CbcDecrypts f iv blocks answers
    → answers ≡ cbc_decrypted f iv blocks
cbc_decrypted-from f iv blocks answers are =
    ext_get_or [] answers (cbc_decrypted f iv blocks) (are.count ∙ sym (length-cbc_decrypted f iv blocks))
    (λ k below.
    let inside : k < length blocks = omega (arith, are.count) in
    let index : k + 1 - 1 ≡ k = omega arith in
    let at : block_at answers (k + 1) ≡ xor_blocks (f (block_at blocks (k + 1))) (block_before iv blocks (k + 1)) =
    are.cbc_decrypted (k + 1) (omega arith) (omega arith) in
    let here : get_or answers k [] ≡ xor_blocks (f (get_or blocks k [])) (get_or (iv ∷ blocks) k []) = rw index at at in
    here ∙ sym (cbc_decrypted-at f iv blocks k inside))
