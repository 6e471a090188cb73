-- Triple ciphers over this crate's `Des`, and the relation of the key that they are made from.
use Rattle.std.proofs.Common.{ℕ, List, Bool}
use Rattle.std.specs.List.{All}
use Rattle.des.specs.Blocks.{IsBlock}
use Rattle.des.specs.Cbc.{CbcUnder, Cbc}
use Rattle.des.specs.Relations.{IsGraphOf}
use Rattle.des.specs.Triple.{EnciphersTriple}
use Rattle.des.specs.TripleCiphers.{IsTripleMadeFrom, triple_encrypted, triple_decrypted}
use Rattle.des.specs.Laws.Passes.{IsPass, IsGraphOf-alike}
use Rattle.des.specs.Laws.SingleDes.{IsDesCipher, IsDesCipher-more}
use Rattle.des.specs.Laws.TriplePasses as triple
use Rattle.des_fast.specs.declared.single.Des.{Des}
use Rattle.des_fast.specs.Des.{IsDesMadeFrom, encrypted, decrypted}
use Rattle.des_fast.specs.Laws.DesLaws.{IsDesCipher-Des}
use Rattle.des_fast.proofs.RelatedCbc.{CbcUnder-related}

module _ {W : Type 0} (deciphers : Bool) (ciphers : Des W × Des W × Des W) where
  single : IsDesCipher (IsDesMadeFrom {W = W}) encrypted decrypted
  single = IsDesCipher-more IsDesCipher-Des

  pub IsPass-triple : IsPass (triple_encrypted encrypted decrypted deciphers ciphers)
      (triple_decrypted encrypted decrypted deciphers ciphers)
  IsPass-triple = triple.IsPass-triple single deciphers ciphers

  module _ (has_three : Bool) (key : List ℕ) (made : IsTripleMadeFrom IsDesMadeFrom has_three deciphers ciphers key) where
    pub encrypts-triple : IsGraphOf (triple_encrypted encrypted decrypted deciphers ciphers)
        (λ x y. EnciphersTriple has_three deciphers key x y)
    encrypts-triple =
        IsGraphOf-alike (λ x y. EnciphersTriple has_three deciphers key x y)
        (triple.Agree-triple_encrypted single deciphers ciphers has_three key made.0) made.1.0

    pub decrypts-triple : IsGraphOf (triple_decrypted encrypted decrypted deciphers ciphers)
        (λ y x. EnciphersTriple has_three deciphers key x y)
    decrypts-triple =
        IsGraphOf-alike (λ y x. EnciphersTriple has_three deciphers key x y)
        (triple.Agree-triple_decrypted single deciphers ciphers has_three key made.0) made.1.1

    pub CbcUnder-triple : (iv : List ℕ) (p q : List (List ℕ)) → IsBlock iv → All IsBlock p
        → Cbc (triple_encrypted encrypted decrypted deciphers ciphers) iv p q
        → CbcUnder (λ x y. EnciphersTriple has_three deciphers key x y) iv p q
    CbcUnder-triple iv p q is_iv are_blocks =
        CbcUnder-related (λ x y. EnciphersTriple has_three deciphers key x y)
        (triple_encrypted encrypted decrypted deciphers ciphers) encrypts-triple iv p q is_iv are_blocks
        IsPass-triple.forth_is_block
