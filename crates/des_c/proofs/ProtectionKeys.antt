-- The relation of a protection key: triple DES under its parts is the graph.
use Rattle.std.proofs.Common.{◌≡◌, ℕ, List, Bool, true, false, length, ap, subst, sym}
use Rattle.des.specs.Relations.{IsGraphOf}
use Rattle.des.specs.Triple.{EnciphersTriple, triple_key_size}
use Rattle.des.specs.TripleCiphers.{IsTripleOf, triple_encrypted}
use Rattle.des.specs.Laws.Passes.{IsGraphOf-alike}
use Rattle.des.specs.Laws.SingleDes.{IsDesCipher, IsDesCipher-more}
use Rattle.des.specs.Laws.TriplePasses.{Agree-triple_encrypted}
use Rattle.des.proofs.TripleGraphs.{HasGraphs-Triple}
use Rattle.des_fast.specs.declared.single.Des.{Des}
use Rattle.des_fast.specs.Des.{IsDesMadeFrom, encrypted, decrypted}
use Rattle.des_fast.specs.Laws.DesLaws.{IsDesCipher-Des}
use Rattle.des_context.specs.CipherTypes.{cipher_type_of_length, relation_by, relation_of}

-- by the length of the key
relation_of-triple : (has_three : Bool) (key : List ℕ) → length key ≡ triple_key_size has_three
    → (λ x y. EnciphersTriple has_three true key x y) ≡ relation_of key
relation_of-triple true key size = sym (ap (λ n. relation_by (cipher_type_of_length n) key) size)
relation_of-triple false key size = sym (ap (λ n. relation_by (cipher_type_of_length n) key) size)

module _ {W : Type 0} (ciphers : Des W × Des W × Des W) where
  single : IsDesCipher (IsDesMadeFrom {W = W}) encrypted decrypted
  single = IsDesCipher-more IsDesCipher-Des

  -- of a key of three parts or two
  pub encrypts-protection : (has_three : Bool) (key : List ℕ) → IsTripleOf IsDesMadeFrom has_three ciphers key
      → IsGraphOf (triple_encrypted encrypted decrypted true ciphers) (relation_of key)
  encrypts-protection has_three key made =
      subst (IsGraphOf (triple_encrypted encrypted decrypted true ciphers)) (relation_of-triple has_three key made.0.0)
      (IsGraphOf-alike (λ x y. EnciphersTriple has_three true key x y)
      (Agree-triple_encrypted single true ciphers has_three key made)
      (HasGraphs-Triple has_three true key made.0).encryption)
