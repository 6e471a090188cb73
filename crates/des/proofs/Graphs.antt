-- What a key, or a `Des` of the key, answers: the graph of each function is the DES relation of the key.
use Rattle.std.proofs.Common.{◌≡◌, ℕ, List, Bool, ap, ◌∙◌, subst}
use Rattle.des.specs.Bits.{bits_of_bytes}
use Rattle.des.specs.Blocks.{IsKey, IsBlock, block_of_bits}
use Rattle.des.specs.Relations.{IsTheOne, IsBijection, IsGraphOf}
use Rattle.des.specs.KeySchedule.{key_schedule}
use Rattle.des.specs.Enciphering.{Enciphers}
use Rattle.des.specs.Rounds.{through_rounds, block_by_keys}
use Rattle.des.specs.declared.des.Des.{Des}
use Rattle.des.specs.Des.{IsDesOf, encrypted, decrypted, encryption, decryption}
use Rattle.des.specs.Laws.BlockBits.{IsBlock-block_of_bits, bits_of_bytes-block_of_bits, block_of_bits-bits_of_bytes, length-bits_of_block}
use Rattle.des.proofs.PassGraphs.{IsBijection-graph, IsTheOne-graph, IsGraphOf-turned}
use Rattle.des.specs.Laws.RoundsUndone.{length-through_rounds, IsPass-block_by_keys}
use Rattle.des.specs.Laws.KeptRoundKeys.{round_keys_of-HoldRoundKeys}
use Rattle.des.proofs.OneAnswer.{IsDes-through_rounds, through_rounds-from_IsDes}

-- DES takes a block to what the rounds of its key make of it
Enciphers-block_by_keys : (key x : List ℕ) → IsKey 8 key → IsBlock x
    → Enciphers key x (block_by_keys (key_schedule (bits_of_bytes key)) x)
Enciphers-block_by_keys key x is_key is_block =
    let k : List Bool = bits_of_bytes key in
    let bits : List Bool = through_rounds (key_schedule k) (bits_of_bytes x) in
    record {
      is_key = is_key;
      first_is_block = is_block;
      last_is_block = IsBlock-block_of_bits bits;
      is_des =
          rw (bits_of_bytes-block_of_bits bits (length-through_rounds (key_schedule k) (bits_of_bytes x)))
          (IsDes-through_rounds k (bits_of_bytes x) (length-bits_of_block key is_key)
          (length-bits_of_block x is_block));
    }

-- encryption under a key takes a block to the one that DES takes it to
pub IsGraphOf-encryption : (key : List ℕ) → IsKey 8 key → IsGraphOf (encryption key) (λ x y. Enciphers key x y)
IsGraphOf-encryption key is_key = λ x y. (
  λ enciphers. (
    enciphers.first_is_block,
    ap block_of_bits (through_rounds-from_IsDes (bits_of_bytes key) (bits_of_bytes x) (bits_of_bytes y)
        enciphers.is_des)
        ∙ block_of_bits-bits_of_bytes y enciphers.last_is_block,
  ),
  λ made. let P : List ℕ → Type 0 = λ z. Enciphers key x z in subst P made.1 (Enciphers-block_by_keys key x is_key made.0),
)

-- decryption under a key takes a block to the one that DES takes to it
pub IsGraphOf-decryption : (key : List ℕ) → IsKey 8 key → IsGraphOf (decryption key) (λ y x. Enciphers key x y)
IsGraphOf-decryption key is_key =
    IsGraphOf-turned (encryption key) (decryption key) (λ x y. Enciphers key x y)
    (IsPass-block_by_keys (key_schedule (bits_of_bytes key))) (IsGraphOf-encryption key is_key)

-- DES under a key has one answer each way
pub IsBijection-key : (key : List ℕ) → IsKey 8 key → IsBijection (λ x y. Enciphers key x y)
IsBijection-key key is_key =
    IsBijection-graph (encryption key) (decryption key) (λ x y. Enciphers key x y)
    (IsPass-block_by_keys (key_schedule (bits_of_bytes key))) (IsGraphOf-encryption key is_key)

-- a `Des` of a key encrypts as the key does
pub IsGraphOf-encrypted : (cipher : Des) (key : List ℕ) → IsDesOf cipher key
    → IsGraphOf (encrypted cipher) (λ x y. Enciphers key x y)
IsGraphOf-encrypted cipher key of_key =
    rw (round_keys_of-HoldRoundKeys cipher.round_keys (bits_of_bytes key) of_key.1) (IsGraphOf-encryption key of_key.0)

-- and decrypts as it does
pub IsGraphOf-decrypted : (cipher : Des) (key : List ℕ) → IsDesOf cipher key
    → IsGraphOf (decrypted cipher) (λ y x. Enciphers key x y)
IsGraphOf-decrypted cipher key of_key =
    rw (round_keys_of-HoldRoundKeys cipher.round_keys (bits_of_bytes key) of_key.1) (IsGraphOf-decryption key of_key.0)

-- what it makes of a block by encryption is the one block that DES takes the block to
pub IsTheOne-encrypted : (cipher : Des) (key block answer : List ℕ) → IsDesOf cipher key → IsBlock block
    → answer ≡ encrypted cipher block → IsTheOne (λ y. Enciphers key block y) answer
IsTheOne-encrypted cipher key block answer of_key is_block same =
    rw same (IsTheOne-graph (encrypted cipher) (λ x y. Enciphers key x y) block (IsGraphOf-encrypted cipher key of_key)
    is_block)

-- and by decryption the one block that DES takes to it
pub IsTheOne-decrypted : (cipher : Des) (key block answer : List ℕ) → IsDesOf cipher key → IsBlock block
    → answer ≡ decrypted cipher block → IsTheOne (λ x. Enciphers key x block) answer
IsTheOne-decrypted cipher key block answer of_key is_block same =
    rw same (IsTheOne-graph (decrypted cipher) (λ y x. Enciphers key x y) block (IsGraphOf-decrypted cipher key of_key)
    is_block)
