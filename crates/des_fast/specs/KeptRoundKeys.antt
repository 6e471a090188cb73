-- Round keys as plain words, which a caller keeps in memory of its own.
use Rattle.std.specs.Prelude.{◌≡◌, ℕ, ◌-◌, ◌*◌, List, Bool, map, slice_range}
use Rattle.des.specs.Bits.{bits_of_bytes}
use Rattle.des.specs.Blocks.{IsKey}
use Rattle.des.specs.KeySchedule.{key_schedule}
use Rattle.des_fast.specs.Groups.{bits_of_groups}

-- the round keys in the groups of words; what stands beside the groups counts for nothing
unfoldable pub round_keys_in : List ℕ → List (List Bool)
round_keys_in words = map bits_of_groups words

-- the words hold the sixteen round keys of the key of eight bytes
abbrev pub AreRoundKeysOf : List ℕ → List ℕ → Type 0
AreRoundKeysOf words key = IsKey 8 key × (round_keys_in words ≡ key_schedule (bits_of_bytes key))

-- the words of part n of a key, from 1, among those of its parts, sixteen each
abbrev pub words_of_part : ℕ → List ℕ → List ℕ
words_of_part n words = slice_range words (16 * (n - 1)) (16 * n)
