-- What a key makes by its type of cipher is what it makes by its length.
use Rattle.std.specs.Prelude.{◌≡◌, ◌↔◌, ℕ, ◌*◌, List, length, refl}
use Rattle.std.proofs.Common.{ap, sym, ◌∙◌, subst}
use Rattle.des.specs.Blocks.{IsKey}
use Rattle.des_context.specs.declared.ciphers.CipherType.{CipherType}
use Rattle.des_context.specs.declared.ciphers.CipherType.TheVariants.{Des, Ede2, Ede3}
use Rattle.des_context.specs.CipherTypes.{parts_of, cipher_type_of_length, relation_by, relation_of, encryption_by, encryption_of, decryption_by, decryption_of}

-- a key has `size` bytes, and makes of blocks by its length what these functions make of it
pub record RelatesByLength (size : ℕ) (encryption : List ℕ → List ℕ → List ℕ)
    (relation : List ℕ → List ℕ → List ℕ → Type 0) (key : List ℕ) : Type 0 where
  pub is_key : IsKey size key
  pub encrypts : encryption key ≡ encryption_of key
  pub relates : (x y : List ℕ) → relation key x y ↔ relation_of key x y

cipher_type-of_length : (cipher_type : CipherType) → cipher_type_of_length (8 * parts_of cipher_type) ≡ cipher_type
cipher_type-of_length Des = refl
cipher_type-of_length Ede2 = refl
cipher_type-of_length Ede3 = refl

pub cipher_type-of_key : (cipher_type : CipherType) (key : List ℕ) → length key ≡ 8 * parts_of cipher_type → cipher_type_of_length (length key) ≡ cipher_type
cipher_type-of_key cipher_type key size = ap cipher_type_of_length size ∙ cipher_type-of_length cipher_type

pub RelatesByLength-cipher_type : (cipher_type : CipherType) (key : List ℕ) → IsKey (8 * parts_of cipher_type) key
    → RelatesByLength (8 * parts_of cipher_type) (encryption_by cipher_type) (relation_by cipher_type) key
RelatesByLength-cipher_type cipher_type key is =
    let same : cipher_type ≡ cipher_type_of_length (length key) = sym (cipher_type-of_key cipher_type key is.0) in record {
      is_key = is;
      encrypts = ap (λ other. encryption_by other key) same;
      relates = λ x y. subst (λ other. relation_by cipher_type key x y ↔ relation_by other key x y) same (λ it. it, λ it. it);
    }

pub by_length-cipher_type : (cipher_type : CipherType) (key : List ℕ) → length key ≡ 8 * parts_of cipher_type
    → (encryption_by cipher_type key ≡ encryption_of key) × (decryption_by cipher_type key ≡ decryption_of key)
by_length-cipher_type cipher_type key size =
    let same : cipher_type ≡ cipher_type_of_length (length key) = sym (cipher_type-of_key cipher_type key size) in
    (ap (λ other. encryption_by other key) same, ap (λ other. decryption_by other key) same)
