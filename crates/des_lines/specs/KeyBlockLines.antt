-- What answers a calculation with a key block, by what was read for it.
use Rattle.std.specs.Prelude.{◌≡◌, ◌⊎◌, ℕ, ◌-◌, ◌==◌, ◌&&◌, nat_le, Bool, true, false, if◌then◌else◌, List, [], ◌∷◌, ◌++◌, length, map, take, replicate, codes, Option, Some, None, Result, Err, IsTrue}
use Rattle.std.specs.List.{flat_map}
use Rattle.std.specs.Option.{option_map, option_or}
use Rattle.std.specs.declared.vec.Vec.{Vec}
use Rattle.std.specs.declared.alloc.Global.{Global}
use Rattle.des_key_blocks.specs.KeyBlockHeaders.{version_text, usage_text, algorithm_text, mode_text, exportability_text, context_text, are_alphanumeric}
use Rattle.des_key_blocks.specs.KeyBlocks.{HasParts, HoldsKey, IsKeyBlock, wrap_fault}
use Rattle.des_key_blocks.specs.KeyBlockReading.{HasLayoutFault, HasFault, is_sealed_length}
use Rattle.des_payment.specs.KeyLengths.{encryption_by}
use Rattle.des_key_blocks.specs.OptionalBlocks.{AreOptionalBlocks, filled, is_printable}
use Rattle.des_key_blocks.specs.declared.key_block_header.Header.{Header}
use Rattle.des_key_blocks.specs.declared.key_block_header.KeyContext.{KeyContext}
use Rattle.des_key_blocks.specs.declared.key_block_header.KeyContext.TheVariants.{StorageOrExchange}
use Rattle.des_key_blocks.specs.declared.key_block_header.Algorithm.{Algorithm}
use Rattle.des_key_blocks.specs.declared.key_block_header.Algorithm.TheVariants.{OtherAlgorithm}
use Rattle.des_key_blocks.specs.declared.key_block_error.KeyBlockError.{KeyBlockError}
use Rattle.des_key_blocks.specs.declared.key_block_error.KeyBlockError.TheVariants.{ProtectionKeyLength, OptionalBlock}
use Rattle.des_lines.specs.declared.requests.Inputs.{Inputs}
use Rattle.des_lines.specs.declared.requests.Wrapping.{Wrapping}
use Rattle.des_lines.specs.declared.requests.KeyBlockCalculation.{KeyBlockCalculation}
use Rattle.des_lines.specs.declared.requests.KeyBlockCalculation.TheVariants.{Header as TellHeader, Unwrap, Wrap}
use Rattle.des_lines.specs.declared.fault.Field.{Field}
use Rattle.des_lines.specs.declared.fault.Field.TheVariants.{Usage, Algorithm as AlgorithmField, Mode, KeyVersion, Exportability}
use Rattle.des_lines.specs.declared.fault.FaultKind.{FaultKind}
use Rattle.des_lines.specs.declared.fault.FaultKind.TheVariants.{KeyText, ToKeyLength, ToKeyText, Field as FieldFault, KeyBlock}
use Rattle.des_lines.specs.Faults.{FailsBy, FailsOr}
use Rattle.des_lines.specs.Keys.{any_key_fault}
use Rattle.des_lines.specs.Texts.{bytes_of, hex_line, text_line}

-- ---- headers

-- a character as a line shows it: a question mark in the place of one that is not printable
abbrev pub shown_character : ℕ → ℕ
shown_character character = if is_printable character then character else 63

abbrev pub shown_text : List ℕ → List ℕ
shown_text text = map shown_character text

-- the line of a field: its name and its value
abbrev pub field_line : List ℕ → List ℕ → List ℕ
field_line name value = name ++ (codes " " ++ (shown_text value ++ codes "\n"))

-- the lines of the fields
abbrev pub header_lines : Header → List ℕ
header_lines header =
    field_line (codes "version") (version_text header.version ∷ [])
    ++ (field_line (codes "usage") (usage_text header.usage)
    ++ (field_line (codes "algorithm") (algorithm_text header.algorithm ∷ [])
    ++ (field_line (codes "mode") (mode_text header.mode ∷ [])
    ++ (field_line (codes "key-version") header.key_version
    ++ field_line (codes "exportability") (exportability_text header.exportability ∷ [])))))

-- the line of a key's context, if it is not storage and exchange
abbrev pub context_lines : KeyContext → List ℕ
context_lines StorageOrExchange = []
context_lines context = field_line (codes "context") (context_text context ∷ [])

-- the line of an optional block: its name and what it says
abbrev pub optional_line : List ℕ × List ℕ → List ℕ
optional_line block =
    codes "optional " ++ (shown_text block.0 ++ (codes " " ++ (shown_text block.1 ++ codes "\n")))

abbrev pub optional_lines : List (List ℕ × List ℕ) → List ℕ
optional_lines blocks = flat_map optional_line blocks

-- a block has a header and optional blocks, and then as many characters as an encrypted key and a MAC have
abbrev pub IsReadable : Header → List (List ℕ × List ℕ) → List ℕ → Type 0
IsReadable header blocks block =
    (front : List ℕ) × ((rest : List ℕ) × (HasParts header blocks front rest block
    × IsTrue (is_sealed_length header.version (length rest))))

-- the lines tell the header, the context and the optional blocks of a block
abbrev pub TellsHeader : List ℕ → List ℕ → Type 0
TellsHeader block lines =
    (header : Header) × ((blocks : List (List ℕ × List ℕ)) × ((readable : IsReadable header blocks block)
    × (lines ≡ header_lines header ++ context_lines readable.1.1.0.context ++ optional_lines blocks)))

-- the block has a fault that shows without a key, or else only memory may be refused
abbrev pub FailsAsHeader : List ℕ → Result (Vec ℕ Global) FaultKind → Type 0
FailsAsHeader block result =
    ((error : KeyBlockError) × (HasLayoutFault block error × (result ≡ Err (KeyBlock error))))
    ⊎ ((header : Header) × ((blocks : List (List ℕ × List ℕ)) × (IsReadable header blocks block × FailsBy None result)))

-- ---- what a block holds

-- the fault of the digits of the key that protects a block, which has two parts or three
abbrev pub protection_fault : List ℕ → Option FaultKind
protection_fault digits =
    if length digits == 16 then Some (KeyBlock ProtectionKeyLength)
    else any_key_fault (KeyBlock ProtectionKeyLength) KeyText digits

-- the line of a key's check value, which keys of DES and triple DES have
abbrev pub check_lines : Algorithm → List ℕ → List ℕ
check_lines (OtherAlgorithm character) key = []
check_lines algorithm key = codes "check-value " ++ hex_line (take 3 (encryption_by key (replicate 8 0)))

-- the lines tell what a block says of the key that it holds, and the key's check value; or the key alone
abbrev pub TellsKey : (shows_key : Bool) → List ℕ → List ℕ → List ℕ → Type 0
TellsKey true protection block lines =
    (header : Header) × ((key : List ℕ) × (HoldsKey (bytes_of protection) block header key × (lines ≡ hex_line key)))
TellsKey false protection block lines =
    (header : Header) × ((key : List ℕ) × (HoldsKey (bytes_of protection) block header key
    × ((told : List ℕ) × (TellsHeader block told × (lines ≡ told ++ check_lines header.algorithm key)))))

-- the fault of the key's digits, or that of the block under the key, or else only memory may be refused
abbrev pub FailsAsUnwrapped : List ℕ → List ℕ → Result (Vec ℕ Global) FaultKind → Type 0
FailsAsUnwrapped protection block result =
    FailsOr (protection_fault protection)
    (((error : KeyBlockError) × (HasFault (bytes_of protection) block error × (result ≡ Err (KeyBlock error))))
    ⊎ ((header : Header) × ((key : List ℕ) × (HoldsKey (bytes_of protection) block header key × FailsBy None result))))
    result

-- ---- blocks that are made

-- a field has its number of letters and digits
abbrev pub field_fault : ℕ → Field → List ℕ → Option FaultKind
field_fault size field text =
    if length text == size && are_alphanumeric text then None else Some (FieldFault field)

-- the first field at fault
abbrev pub header_text_fault : Wrapping → Option FaultKind
header_text_fault wrapping =
    option_or (field_fault 2 Usage wrapping.usage.now)
    (option_or (field_fault 1 AlgorithmField wrapping.algorithm.now)
    (option_or (field_fault 1 Mode wrapping.mode.now)
    (option_or (field_fault 2 KeyVersion wrapping.key_version.now)
    (field_fault 1 Exportability wrapping.exportability.now))))

-- the header has these fields
pub record IsHeaderOf (wrapping : Wrapping) (header : Header) : Type 0 where
  pub version : header.version ≡ wrapping.version
  pub usage : usage_text header.usage ≡ wrapping.usage.now
  pub algorithm : algorithm_text header.algorithm ∷ [] ≡ wrapping.algorithm.now
  pub mode : mode_text header.mode ∷ [] ≡ wrapping.mode.now
  pub key_version : header.key_version ≡ wrapping.key_version.now
  pub exportability : exportability_text header.exportability ∷ [] ≡ wrapping.exportability.now

-- the padding of a key: with the key 30 bytes
abbrev pub padding_of : List ℕ → List ℕ → List ℕ
padding_of random key = take (30 - length key) random

-- the line of a block of a header, the optional blocks of a text, and a key
pub record IsMadeLine (protection : List ℕ) (header : Header) (optional key random line : List ℕ) : Type 0 where
  pub block : List ℕ
  pub blocks : List (List ℕ × List ℕ)
  pub are_blocks : AreOptionalBlocks blocks optional
  pub made : IsKeyBlock protection header (filled blocks) key (padding_of random key) block
  pub is_line : line ≡ text_line block

-- the line of a block of the key that digits write, under the header and the optional blocks of the texts
pub record IsWrapped (wrapping : Wrapping) (inputs : Inputs) (line : List ℕ) : Type 0 where
  pub header : Header
  pub fields : IsHeaderOf wrapping header
  pub made : IsMadeLine (bytes_of inputs.key.now) header wrapping.optional.now (bytes_of inputs.text.now)
      inputs.random.now line

-- the first fault of the digits of both keys and of the fields
abbrev pub texts_fault : Wrapping → Inputs → Option FaultKind
texts_fault wrapping inputs =
    option_or (protection_fault inputs.key.now)
    (option_or (any_key_fault ToKeyLength ToKeyText inputs.text.now) (header_text_fault wrapping))

-- a text is that of 99 optional blocks at most
abbrev pub HasBlocks : List ℕ → Type 0
HasBlocks optional =
    (blocks : List (List ℕ × List ℕ)) × (IsTrue (nat_le (length blocks) 99) × AreOptionalBlocks blocks optional)

-- optional blocks that are none, or what no block is made of, or else only memory may be refused
abbrev pub FailsAsMade : List ℕ → Header → List ℕ → List ℕ → List ℕ → Result (Vec ℕ Global) FaultKind → Type 0
FailsAsMade protection header optional key random result =
    ((¬ HasBlocks optional) × (result ≡ Err (KeyBlock OptionalBlock)))
    ⊎ ((blocks : List (List ℕ × List ℕ)) × (AreOptionalBlocks blocks optional
    × FailsBy (option_map KeyBlock (wrap_fault protection header blocks key (padding_of random key) 9999)) result))

-- the texts at fault, or what the block is made of
abbrev pub FailsAsWrapped : Wrapping → Inputs → Result (Vec ℕ Global) FaultKind → Type 0
FailsAsWrapped wrapping inputs result =
    FailsOr (texts_fault wrapping inputs)
    ((header : Header) × (IsHeaderOf wrapping header × FailsAsMade (bytes_of inputs.key.now) header
    wrapping.optional.now (bytes_of inputs.text.now) inputs.random.now result))
    result

-- ---- calculations

-- the lines answer the calculation
abbrev pub AnswersKeyBlock : KeyBlockCalculation → Inputs → List ℕ → Type 0
AnswersKeyBlock TellHeader inputs lines = TellsHeader inputs.text.now lines
AnswersKeyBlock (Unwrap shows_key) inputs lines = TellsKey shows_key inputs.key.now inputs.text.now lines
AnswersKeyBlock (Wrap wrapping) inputs lines = IsWrapped wrapping inputs lines

-- how it fails
abbrev pub FailsAsKeyBlock : KeyBlockCalculation → Inputs → Result (Vec ℕ Global) FaultKind → Type 0
FailsAsKeyBlock TellHeader inputs result = FailsAsHeader inputs.text.now result
FailsAsKeyBlock (Unwrap shows_key) inputs result = FailsAsUnwrapped inputs.key.now inputs.text.now result
FailsAsKeyBlock (Wrap wrapping) inputs result = FailsAsWrapped wrapping inputs result
