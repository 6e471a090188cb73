-- The fields of a key block's header as C has them.
use Rattle.std.specs.Prelude.{◌≡◌, ℕ, ◌≤◌, ◌==◌, ◌||◌, Bool, not, if◌then◌else◌, List, [], ◌∷◌, ◌++◌, length, map}
use Rattle.std.specs.Prelude.{take, drop, Option, Some, None}
use Rattle.des_key_blocks.specs.KeyBlockHeaders.{version_text, usage_text, algorithm_text, mode_text, exportability_text}
use Rattle.des_key_blocks.specs.KeyBlocks.{key_data, front_text, size_of_block, HoldsKey, IsKeyBlock, IsSealed}
use Rattle.des_key_blocks.specs.OptionalBlocks.{AreOptionalBlocks, filled}
use Rattle.des_key_blocks.specs.declared.key_block_error.KeyBlockError.{KeyBlockError}
use Rattle.des_key_blocks.specs.declared.key_block_error.KeyBlockError.TheVariants
use Rattle.des_key_blocks.specs.declared.key_block_header.Header.{Header}
use Rattle.des_key_blocks.specs.declared.optional_blocks.OptionalBlock.{OptionalBlock}
use Rattle.des_c.specs.Texts.{with_zeros}
use Rattle.des_c.specs.declared.payment.key_blocks.HeaderText.{HeaderText}

-- what stands after a text of two plays no part
abbrev pub IsTextOf : HeaderText → Header → Type 0
IsTextOf text header =
    (text.version ≡ version_text header.version)
    × (take 2 text.usage ≡ usage_text header.usage)
    × (text.algorithm ≡ algorithm_text header.algorithm)
    × (text.mode ≡ mode_text header.mode)
    × (take 2 text.key_version ≡ header.key_version)
    × (text.exportability ≡ exportability_text header.exportability)

-- a zero byte stands after it if the text is written
abbrev pub IsWrittenTextOf : HeaderText → Header → Type 0
IsWrittenTextOf text header =
    IsTextOf text header × (drop 2 text.usage ≡ 0 ∷ []) × (drop 2 text.key_version ≡ 0 ∷ [])

-- ---- what is made

-- blocks of version B, 66, and C, 67, are made
abbrev pub is_made : HeaderText → Bool
is_made text = text.version == 66 || text.version == 67

-- the fault of the version
abbrev pub version_fault : HeaderText → Option KeyBlockError
version_fault text = if not (is_made text) then Some TheVariants.Version else None

-- optional blocks stand one after the other, at most 99
abbrev pub AreReadable : List ℕ → Type 0
AreReadable text = (blocks : List (List ℕ × List ℕ)) × ((length blocks ≤ 99) × AreOptionalBlocks blocks text)

-- ---- what is read and written

-- optional blocks as pairs of a name and a content
abbrev pub shown : List OptionalBlock → List (List ℕ × List ℕ)
shown blocks = map (λ block. (block.name, block.content.now)) blocks

-- a block was opened: what it holds, and its texts as they were written
pub record IsUnwrapped (protection block : List ℕ) (text : HeaderText) (key : List ℕ) (size : ℕ) : Type 0 where
  pub header : Header
  pub bytes : List ℕ
  pub holds : HoldsKey protection block header bytes
  pub is_text : IsWrittenTextOf text header
  pub is_key : key ≡ with_zeros 24 bytes
  pub is_size : size ≡ length bytes

-- a text is the block of a header, of optional blocks, a key and padding, and says its length: what is written before key
-- data, and then these, encrypted and authenticated
pub record IsMade (protection : List ℕ) (header : Header) (blocks : List (List ℕ × List ℕ)) (key padding text : List ℕ)
    (size : ℕ) : Type 0 where
  pub sealed : List ℕ
  pub is_block : IsKeyBlock protection header (filled blocks) key padding text
  pub is_size : size ≡ size_of_block header.version blocks key padding
  pub is_text : text ≡ front_text header (filled blocks) size ++ sealed
  pub is_sealed : IsSealed header.version protection (front_text header (filled blocks) size) (key_data key padding)
      sealed

-- the same of a header and of optional blocks of which these are the texts
pub record IsWrapped (protection : List ℕ) (text : HeaderText) (optional key padding block : List ℕ) (size : ℕ)
    : Type 0 where
  pub header : Header
  pub blocks : List (List ℕ × List ℕ)
  pub is_text : IsTextOf text header
  pub are_optional : AreOptionalBlocks blocks optional
  pub is_made : IsMade protection header blocks key padding block size
