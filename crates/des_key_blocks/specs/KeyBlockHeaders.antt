-- The header of a key block (ANSI X9.143, ASC X9 TR-31), as characters.
use Rattle.std.specs.Prelude.{◌≡◌, ℕ, ◌+◌, ◌/◌, ◌%◌, ◌==◌, ◌&&◌, ◌||◌, Bool, true, false, not, nat_le, if◌then◌else◌, List, [], ◌∷◌, ◌++◌, length, slice_index, codes, Option, Some, None, IsTrue}
use Rattle.std.specs.Char.{is_ascii_digit, is_ascii_alphanumeric}
use Rattle.std.specs.List.{list_all}
use Rattle.des_key_blocks.specs.declared.key_block_header.Header.{Header}
use Rattle.des_key_blocks.specs.declared.key_block_header.Version.{Version}
use Rattle.des_key_blocks.specs.declared.key_block_header.Version.TheVariants.{A, B, C}
use Rattle.des_key_blocks.specs.declared.key_block_header.Usage.{Usage}
use Rattle.des_key_blocks.specs.declared.key_block_header.Usage.TheVariants.{BaseDerivation, InitialDukpt, CardVerification, Data, ApplicationCryptograms, CardConfidentiality, CardIntegrity, KeyEncryption, KeyProtection, MacAlgorithm1, MacAlgorithm3, Cmac, PinEncryption, PinVerification, Ibm3624, Pvv, OtherUsage}
use Rattle.des_key_blocks.specs.declared.key_block_header.Algorithm.{Algorithm}
use Rattle.des_key_blocks.specs.declared.key_block_header.Algorithm.TheVariants.{Des, TripleDes, OtherAlgorithm}
use Rattle.des_key_blocks.specs.declared.key_block_header.ModeOfUse.{ModeOfUse}
use Rattle.des_key_blocks.specs.declared.key_block_header.ModeOfUse.TheVariants.{EncryptAndDecrypt, GenerateAndVerify, Decrypt, Encrypt, Generate, NoRestriction, Verify, Derive, OtherMode}
use Rattle.des_key_blocks.specs.declared.key_block_header.Exportability.{Exportability}
use Rattle.des_key_blocks.specs.declared.key_block_header.Exportability.TheVariants.{Exportable, NonExportable, Sensitive, OtherRule}
use Rattle.des_key_blocks.specs.declared.key_block_header.KeyContext.{KeyContext}
use Rattle.des_key_blocks.specs.declared.key_block_header.KeyContext.TheVariants.{StorageOrExchange, Storage, Exchange}
use Rattle.des_key_blocks.specs.declared.key_block_error.KeyBlockError.{KeyBlockError}
use Rattle.des_key_blocks.specs.declared.key_block_error.KeyBlockError.TheVariants.{Length as LengthFault, Version as VersionFault, Header as HeaderFault}

-- the characters of each field: 65 is A, 48 is 0
abbrev pub version_text : Version → ℕ
version_text A = 65
version_text B = 66
version_text C = 67

abbrev pub usage_text : Usage → List ℕ
usage_text BaseDerivation = codes "B0"
usage_text InitialDukpt = codes "B1"
usage_text CardVerification = codes "C0"
usage_text Data = codes "D0"
usage_text ApplicationCryptograms = codes "E0"
usage_text CardConfidentiality = codes "E1"
usage_text CardIntegrity = codes "E2"
usage_text KeyEncryption = codes "K0"
usage_text KeyProtection = codes "K1"
usage_text MacAlgorithm1 = codes "M1"
usage_text MacAlgorithm3 = codes "M3"
usage_text Cmac = codes "M6"
usage_text PinEncryption = codes "P0"
usage_text PinVerification = codes "V0"
usage_text Ibm3624 = codes "V1"
usage_text Pvv = codes "V2"
usage_text (OtherUsage text) = text

abbrev pub algorithm_text : Algorithm → ℕ
algorithm_text Des = 68
algorithm_text TripleDes = 84
algorithm_text (OtherAlgorithm character) = character

abbrev pub mode_text : ModeOfUse → ℕ
mode_text EncryptAndDecrypt = 66
mode_text GenerateAndVerify = 67
mode_text Decrypt = 68
mode_text Encrypt = 69
mode_text Generate = 71
mode_text NoRestriction = 78
mode_text Verify = 86
mode_text Derive = 88
mode_text (OtherMode character) = character

abbrev pub exportability_text : Exportability → ℕ
exportability_text Exportable = 69
exportability_text NonExportable = 78
exportability_text Sensitive = 83
exportability_text (OtherRule character) = character

abbrev pub context_text : KeyContext → ℕ
context_text StorageOrExchange = 48
context_text Storage = 49
context_text Exchange = 50

-- the decimal digit of a number at a power of ten
abbrev pub decimal_at : ℕ → ℕ → ℕ
decimal_at power number = 48 + number / power % 10

-- the fields from the usage to the exportability
abbrev pub fields_text : Header → List ℕ
fields_text header =
    usage_text header.usage ++ algorithm_text header.algorithm ∷ mode_text header.mode ∷ []
    ++ header.key_version ++ exportability_text header.exportability ∷ []

-- sixteen characters: the version, the length of the block in four digits, those fields, the number of optional
-- blocks in two, the key's context, and a zero
abbrev pub header_text : Header → KeyContext → ℕ → ℕ → List ℕ
header_text header context length count =
    version_text header.version
    ∷ decimal_at 1000 length ∷ decimal_at 100 length ∷ decimal_at 10 length ∷ decimal_at 1 length ∷ []
    ++ fields_text header ++ decimal_at 10 count ∷ decimal_at 1 count ∷ context_text context ∷ 48 ∷ []

-- the usage has two characters, and so has the number of the key's version
abbrev pub IsHeader : Header → Type 0
IsHeader header = (length (usage_text header.usage) ≡ 2) × (length header.key_version ≡ 2)

-- letters and digits
abbrev pub are_alphanumeric : List ℕ → Bool
are_alphanumeric text = list_all is_ascii_alphanumeric text

-- the fields are written, whose characters are such
abbrev pub is_written : Header → Bool
is_written header = are_alphanumeric (fields_text header)

-- ---- reading

-- whether a usage, an algorithm, a mode of use or a rule has a name of its own
abbrev pub is_named_usage : Usage → Bool
is_named_usage (OtherUsage text) = false
is_named_usage _ = true

abbrev pub is_named_algorithm : Algorithm → Bool
is_named_algorithm (OtherAlgorithm character) = false
is_named_algorithm _ = true

abbrev pub is_named_mode : ModeOfUse → Bool
is_named_mode (OtherMode character) = false
is_named_mode _ = true

abbrev pub is_named_rule : Exportability → Bool
is_named_rule (OtherRule character) = false
is_named_rule _ = true

-- each field that has the text of a name is that name
pub record IsNamed (header : Header) : Type 0 where
  pub usage : (usage : Usage) → IsTrue (is_named_usage usage) → usage_text usage ≡ usage_text header.usage
      → header.usage ≡ usage
  pub algorithm : (algorithm : Algorithm) → IsTrue (is_named_algorithm algorithm)
      → algorithm_text algorithm ≡ algorithm_text header.algorithm → header.algorithm ≡ algorithm
  pub mode : (mode : ModeOfUse) → IsTrue (is_named_mode mode) → mode_text mode ≡ mode_text header.mode
      → header.mode ≡ mode
  pub exportability : (rule : Exportability) → IsTrue (is_named_rule rule)
      → exportability_text rule ≡ exportability_text header.exportability → header.exportability ≡ rule

-- a block is as long as the four digits after its version say
abbrev pub says_length : List ℕ → Bool
says_length block =
    slice_index block 1 == decimal_at 1000 (length block) && slice_index block 2 == decimal_at 100 (length block)
    && slice_index block 3 == decimal_at 10 (length block) && slice_index block 4 == decimal_at 1 (length block)

abbrev pub is_long : List ℕ → Bool
is_long block = nat_le 16 (length block) && nat_le (length block) 9999 && says_length block

-- A, B or C
abbrev pub is_version : ℕ → Bool
is_version character = character == 65 || character == 66 || character == 67

-- 0, 1 or 2
abbrev pub is_context : ℕ → Bool
is_context character = character == 48 || character == 49 || character == 50

-- two digits, a context and a zero end the header
abbrev pub has_ending : List ℕ → Bool
has_ending block =
    is_ascii_digit (slice_index block 12) && is_ascii_digit (slice_index block 13) && is_context (slice_index block 14)
    && slice_index block 15 == 48

-- the first fault that shows in the header of a block
abbrev pub header_fault : List ℕ → Option KeyBlockError
header_fault block =
    if not (is_long block) then Some LengthFault
    else if not (is_version (slice_index block 0)) then Some VersionFault
    else if not (has_ending block) then Some HeaderFault
    else None
