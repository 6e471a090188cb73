-- The laws of this crate's `Des` as a block cipher, and as one with a key, said of the type.
use Rattle.std.proofs.Common.{ℕ, List, reverse, ap}
use Rattle.des.specs.Rounds.{block_by_keys}
use Rattle.des.specs.Des.{encryption, decryption}
use Rattle.des.specs.Laws.Passes.{IsPass, Agree}
use Rattle.des.specs.Laws.SingleDes.{IsDesCipher}
use Rattle.des.specs.Laws.RoundsUndone.{IsPass-block_by_keys}
use Rattle.des_fast.specs.declared.single.Des.{Des}
use Rattle.des_fast.specs.HalfBlocks.{round_keys_of}
use Rattle.des_fast.specs.Des.{IsDesOf, encrypted, decrypted}

module _ {W : Type 0} where
  -- a cipher is a pass
  pub IsPass-Des : (cipher : Des W) → IsPass (encrypted cipher) (decrypted cipher)
  IsPass-Des cipher = IsPass-block_by_keys (round_keys_of cipher.schedule.round_keys)

  -- a cipher of a key answers as the key does, in each direction
  pub Agree-encrypted : (cipher : Des W) (key : List ℕ) → IsDesOf cipher key
      → Agree (encrypted cipher) (encryption key)
  Agree-encrypted cipher key made =
      record { at = λ block is_block. ap (λ keys. block_by_keys keys block) made.1 }

  pub Agree-decrypted : (cipher : Des W) (key : List ℕ) → IsDesOf cipher key
      → Agree (decrypted cipher) (decryption key)
  Agree-decrypted cipher key made =
      record { at = λ block is_block. ap (λ keys. block_by_keys (reverse keys) block) made.1 }

  -- all that a triple cipher asks of a single one
  pub IsDesCipher-Des : IsDesCipher (IsDesOf {W = W}) encrypted decrypted
  IsDesCipher-Des = record {
    is_pass = IsPass-Des;
    encrypts_as_des = Agree-encrypted;
    decrypts_as_des = Agree-decrypted;
  }
