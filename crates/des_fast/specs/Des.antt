-- What a `Des` of this crate is, and what it answers to a block: said with the rounds of `des`, so
-- that both answer alike.
use Rattle.std.specs.Prelude.{◌≡◌, ℕ, List, reverse}
use Rattle.des.specs.Bits.{bits_of_bytes}
use Rattle.des.specs.Blocks.{IsKey}
use Rattle.des.specs.Relations.{AreGraphsOf}
use Rattle.des.specs.KeySchedule.{key_schedule}
use Rattle.des.specs.Enciphering.{Enciphers}
use Rattle.des.specs.Rounds.{block_by_keys}
use Rattle.des.specs.Des.{encryption, decryption}
use Rattle.des_fast.specs.declared.single.Des.{Des}
use Rattle.des_fast.specs.HalfBlocks.{round_keys_of}

-- the cipher is a DES of the key of eight bytes: it holds the key's sixteen round keys
abbrev pub IsDesOf : {W : Type 0} → Des W → List ℕ → Type 0
IsDesOf cipher key =
    IsKey 8 key × (round_keys_of cipher.schedule.round_keys ≡ key_schedule (bits_of_bytes key))

-- the cipher is a DES of the key, and the key answers by the DES relation
abbrev pub IsDesMadeFrom : {W : Type 0} → Des W → List ℕ → Type 0
IsDesMadeFrom cipher key =
    IsDesOf cipher key × AreGraphsOf (encryption key) (decryption key) (λ x y. Enciphers key x y)

-- the block that the cipher makes of a block by encryption, with the round keys that it holds
abbrev pub encrypted : {W : Type 0} → Des W → List ℕ → List ℕ
encrypted cipher block = block_by_keys (round_keys_of cipher.schedule.round_keys) block

-- the block that the cipher makes of a block by decryption
abbrev pub decrypted : {W : Type 0} → Des W → List ℕ → List ℕ
decrypted cipher block = block_by_keys (reverse (round_keys_of cipher.schedule.round_keys)) block
