-- The optional blocks of a key block (ANSI X9.143, ASC X9 TR-31). Texts are lists of ASCII characters.
use Rattle.std.specs.Prelude.{◌≡◌, ℕ, ◌+◌, ◌-◌, ◌%◌, ◌^◌, ◌<◌, ◌⊎◌, ◌==◌, ◌&&◌, Bool, not, nat_lt, nat_le, if◌then◌else◌, List, [], ◌∷◌, ◌++◌, length, take, slice_index, replicate, codes}
use Rattle.std.specs.List.{flat_map, list_all}
use Rattle.des_key_blocks.specs.Hex.{hex_number}
use Rattle.des_key_blocks.specs.KeyBlockHeaders.{are_alphanumeric}

-- ---- one block

-- a name, the number of characters, and the content
abbrev pub short_block : List ℕ → List ℕ → List ℕ
short_block name content = name ++ (hex_number 2 (length content + 4) ++ content)

-- the same with a number of four digits, after two zeros and how long that number is: in bytes, 2, or in digits, 4
abbrev pub long_block : ℕ → List ℕ → List ℕ → List ℕ
long_block unit name content =
    name ++ (codes "00" ++ (hex_number 2 unit ++ (hex_number 4 (length content + 10) ++ content)))

abbrev pub IsShortBlock : List ℕ → List ℕ → List ℕ → Type 0
IsShortBlock name content text = (length content + 4 < 256) × (text ≡ short_block name content)

abbrev pub IsLongBlock : ℕ → List ℕ → List ℕ → List ℕ → Type 0
IsLongBlock unit name content text =
    ((unit ≡ 2) ⊎ (unit ≡ 4)) × (length content + 10 < 16 ^ 4) × (text ≡ long_block unit name content)

abbrev pub IsOptionalBlock : List ℕ → List ℕ → List ℕ → Type 0
IsOptionalBlock name content text =
    (length name ≡ 2) × (IsShortBlock name content text ⊎ (unit : ℕ) × IsLongBlock unit name content text)

-- ---- the blocks of a header

-- each block is a name and its content
unfoldable pub AreOptionalBlocks : List (List ℕ × List ℕ) → List ℕ → Type 0
AreOptionalBlocks [] text = text ≡ []
AreOptionalBlocks (block ∷ blocks) text =
    (first : List ℕ) × ((rest : List ℕ) × ((text ≡ first ++ rest)
    × IsOptionalBlock block.0 block.1 first × AreOptionalBlocks blocks rest))

-- how many characters blocks have if each has the shorter form, if it can, and else a length of four digits
abbrev pub size_of : List ℕ → ℕ
size_of content = if nat_lt (length content + 4) 256 then length content + 4 else length content + 10

unfoldable pub size_of_all : List (List ℕ × List ℕ) → ℕ
size_of_all [] = 0
size_of_all (block ∷ blocks) = size_of block.1 + size_of_all blocks

-- the text of such blocks: if the length has four digits, it is said to have two bytes
abbrev pub block_text : List ℕ × List ℕ → List ℕ
block_text block =
    if nat_lt (length block.1 + 4) 256 then short_block block.0 block.1 else long_block 2 block.0 block.1

abbrev pub blocks_text : List (List ℕ × List ℕ) → List ℕ
blocks_text blocks = flat_map block_text blocks

-- a block `PB` of zeros that fills a number of characters to a multiple of eight, if it is none
abbrev pub filling : ℕ → List (List ℕ × List ℕ)
filling size = if size % 8 == 0 then [] else (codes "PB", replicate ((12 - size % 8) % 8) 48) ∷ []

abbrev pub filled : List (List ℕ × List ℕ) → List (List ℕ × List ℕ)
filled blocks = blocks ++ filling (size_of_all blocks)

-- ---- which are written

-- a space or a printable character of ASCII
abbrev pub is_printable : ℕ → Bool
is_printable character = nat_le 32 character && nat_le character 126

abbrev pub are_printable : List ℕ → Bool
are_printable text = list_all is_printable text

-- a name of letters and digits, and a content of printable characters
abbrev pub is_written : List ℕ × List ℕ → Bool
is_written block = are_alphanumeric block.0 && are_printable block.1

abbrev pub are_written : List (List ℕ × List ℕ) → Bool
are_written blocks = list_all is_written blocks

-- its name is that of a block that fills: 80 is P, 66 is B
abbrev pub is_filling : List ℕ × List ℕ → Bool
is_filling block = slice_index block.0 0 == 80 && slice_index block.0 1 == 66

-- the last block may fill, if with it they have a multiple of eight characters; no other fills
abbrev pub are_placed : List (List ℕ × List ℕ) → Bool
are_placed blocks =
    let others = if size_of_all blocks % 8 == 0 then length blocks - 1 else length blocks in
    list_all (λ block. not (is_filling block)) (take others blocks)
