-- The laws of `Des` as a block cipher, and as one with a key, said of the type, for those who make
-- ciphers of it: a proof of a law cannot cite the law of another impl by its name.
use Rattle.std.proofs.Common.{ℕ, List, reverse}
use Rattle.des.specs.declared.des.Des.{Des}
use Rattle.des.specs.Bits.{bits_of_bytes}
use Rattle.des.specs.KeySchedule.{key_schedule}
use Rattle.des.specs.RoundKeyWords.{round_keys_of}
use Rattle.des.specs.Des.{IsDesOf, encrypted, decrypted, encryption, decryption}
use Rattle.des.specs.Laws.Passes.{IsPass, Agree}
use Rattle.des.specs.Laws.SingleDes.{IsDesCipher}
use Rattle.des.specs.Laws.RoundsUndone.{IsPass-block_by_keys}
use Rattle.des.specs.Laws.KeptRoundKeys.{Agree-kept}

-- a cipher is a pass, and so is a key
pub IsPass-Des : (cipher : Des) → IsPass (encrypted cipher) (decrypted cipher)
IsPass-Des cipher = IsPass-block_by_keys (round_keys_of cipher.round_keys)

pub IsPass-key : (key : List ℕ) → IsPass (encryption key) (decryption key)
IsPass-key key = IsPass-block_by_keys (key_schedule (bits_of_bytes key))

-- a cipher of a key answers as the key does, in each direction
pub Agree-encrypted : (cipher : Des) (key : List ℕ) → IsDesOf cipher key
    → Agree (encrypted cipher) (encryption key)
Agree-encrypted cipher key made = Agree-kept (λ keys. keys) cipher.round_keys key made.1

pub Agree-decrypted : (cipher : Des) (key : List ℕ) → IsDesOf cipher key
    → Agree (decrypted cipher) (decryption key)
Agree-decrypted cipher key made = Agree-kept reverse cipher.round_keys key made.1

-- all that a triple cipher asks of a single one
pub IsDesCipher-Des : IsDesCipher IsDesOf encrypted decrypted
IsDesCipher-Des = record {
  is_pass = IsPass-Des;
  encrypts_as_des = Agree-encrypted;
  decrypts_as_des = Agree-decrypted;
}
