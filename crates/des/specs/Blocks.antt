-- Bytes, keys and blocks as lists of numbers, and lists of blocks.
use Rattle.std.specs.Prelude.{◌≡◌, ℕ, ◌-◌, ◌*◌, ◌<◌, List, Bool, length, take, drop}
use Rattle.std.specs.List.{All, AllZip}
use Rattle.std.specs.Int.{w64, to_be_bytes}
use Rattle.des.specs.Bits.{number_of}

-- each number is a byte
abbrev pub AreBytes : List ℕ → Type 0
AreBytes numbers = All (λ number. number < 256) numbers

-- a key of n bytes
abbrev pub IsKey : ℕ → List ℕ → Type 0
IsKey n key = (length key ≡ n) × AreBytes key

-- part n of a key, from 1: bytes 1 to 8, 9 to 16, 17 to 24
abbrev pub part : ℕ → List ℕ → List ℕ
part n key = take 8 (drop (8 * (n - 1)) key)

-- a block of 64 bits: eight bytes
abbrev pub IsBlock : List ℕ → Type 0
IsBlock block = (length block ≡ 8) × AreBytes block

-- the block that 64 bits write
unfoldable pub block_of_bits : List Bool → List ℕ
block_of_bits bits = to_be_bytes w64 (number_of bits)

-- a list of blocks answers another, block by block: there are as many, and at each place the two
-- are related
abbrev pub AnswersEach : (List ℕ → List ℕ → Type 0) → List (List ℕ) → List (List ℕ) → Type 0
AnswersEach Answers blocks answers = AllZip Answers blocks answers
