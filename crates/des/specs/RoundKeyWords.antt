-- Machine words that hold round keys, each in its first 48 bits with zeros after it. They stand
-- apart from what a `Des` is, since the type itself says that its words are such.
use Rattle.std.specs.Prelude.{◌≡◌, ℕ, List, ◌++◌, Bool, map, take}
use Rattle.des.specs.Bits.{bits_of_word, bits_of_bytes, zeros}
use Rattle.des.specs.Blocks.{IsKey}
use Rattle.des.specs.KeySchedule.{key_schedule}

-- the words hold K(1) to K(16) of the key
abbrev pub HoldRoundKeys : List ℕ → List Bool → Type 0
HoldRoundKeys words key =
    map bits_of_word words ≡ map (λ round_key. round_key ++ zeros 16) (key_schedule key)

-- the words hold the round keys of some key of eight bytes
abbrev pub HoldSomeRoundKeys : List ℕ → Type 0
HoldSomeRoundKeys words = (key : List ℕ) × IsKey 8 key × HoldRoundKeys words (bits_of_bytes key)

-- the round keys that words hold
unfoldable pub round_keys_of : List ℕ → List (List Bool)
round_keys_of words = map (λ word. take 48 (bits_of_word word)) words
