-- What a `Des` is, and what it and its key answer to a block.
use Rattle.std.specs.Prelude.{ℕ, List, reverse}
use Rattle.des.specs.declared.des.Des.{Des}
use Rattle.des.specs.Bits.{bits_of_bytes}
use Rattle.des.specs.Blocks.{IsKey}
use Rattle.des.specs.Relations.{AreGraphsOf}
use Rattle.des.specs.KeySchedule.{key_schedule}
use Rattle.des.specs.Enciphering.{Enciphers}
use Rattle.des.specs.RoundKeyWords.{HoldRoundKeys, round_keys_of}
use Rattle.des.specs.Rounds.{block_by_keys}

-- the sixteen words that the cipher holds, with a round key in each
abbrev pub round_key_words : Des → List ℕ
round_key_words cipher = cipher.round_keys

-- the cipher is a DES of the key of eight bytes: it holds the key's sixteen round keys
abbrev pub IsDesOf : Des → List ℕ → Type 0
IsDesOf cipher key = IsKey 8 key × HoldRoundKeys cipher.round_keys (bits_of_bytes key)

-- the block that the cipher makes of a block by encryption, with the round keys that it holds
abbrev pub encrypted : Des → List ℕ → List ℕ
encrypted cipher block = block_by_keys (round_keys_of cipher.round_keys) block

-- the block that the cipher makes of a block by decryption
abbrev pub decrypted : Des → List ℕ → List ℕ
decrypted cipher block = block_by_keys (reverse (round_keys_of cipher.round_keys)) block

-- the block that DES under a key takes a block to
abbrev pub encryption : List ℕ → List ℕ → List ℕ
encryption key block = block_by_keys (key_schedule (bits_of_bytes key)) block

-- the block that DES under the key takes to a block
abbrev pub decryption : List ℕ → List ℕ → List ℕ
decryption key block = block_by_keys (reverse (key_schedule (bits_of_bytes key))) block

-- the cipher is a DES of the key, and the key answers by the DES relation
abbrev pub IsDesMadeFrom : Des → List ℕ → Type 0
IsDesMadeFrom cipher key =
    IsDesOf cipher key × AreGraphsOf (encryption key) (decryption key) (λ x y. Enciphers key x y)
