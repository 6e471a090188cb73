-- What is read of a key block (ANSI X9.143, ASC X9 TR-31), and the first fault of a block that holds no key.
use Rattle.std.specs.Prelude.{◌≡◌, ℕ, ◌-◌, ◌*◌, ◌==◌, ◌||◌, ◌⊎◌, Bool, List, length, Some, None, IsTrue, IsFalse}
use Rattle.des.specs.Blocks.{AreBytes}
use Rattle.des_key_blocks.specs.Hex.{hex_of}
use Rattle.des_key_blocks.specs.KeyBlockHeaders.{fields_text, header_fault}
use Rattle.des_key_blocks.specs.KeyBlocks.{mac_size, key_data, is_protection_key, is_key_data, HasParts, IsSealed}
use Rattle.des_key_blocks.specs.declared.key_block_header.Header.{Header}
use Rattle.des_key_blocks.specs.declared.key_block_header.Version.{Version}
use Rattle.des_key_blocks.specs.declared.key_block_error.KeyBlockError.{KeyBlockError}
use Rattle.des_key_blocks.specs.declared.key_block_error.KeyBlockError.TheVariants.{ProtectionKeyLength, Length, Version as VersionFault, Header as HeaderFault, OptionalBlock, DataLength, Digit, Mac, KeyLength}

-- two headers of one text: a field without a name of its own may be one with a name
abbrev pub AreAlike : Header → Header → Type 0
AreAlike header other = (header.version ≡ other.version) × (fields_text header ≡ fields_text other)

-- ---- stages

-- after the optional blocks stand the digits of 8, 16, 24 or 32 bytes, and of a MAC
abbrev pub is_sealed_length : Version → ℕ → Bool
is_sealed_length version size =
    let digits = size - 2 * mac_size version in
    digits == 16 || digits == 32 || digits == 48 || digits == 64

abbrev pub AreHexDigits : List ℕ → Type 0
AreHexDigits text = (bytes : List ℕ) × (AreBytes bytes × (text ≡ hex_of bytes))

abbrev pub IsKeyData : List ℕ → Type 0
IsKeyData clear =
    (key : List ℕ) × ((padding : List ℕ) × (IsTrue (is_key_data key padding) × (clear ≡ key_data key padding)))

-- a block has parts, and a fact holds of its version, its front and its rest
pub record HasPartsSo (Fact : Version → List ℕ → List ℕ → Type 0) (block : List ℕ) : Type 0 where
  pub header : Header
  pub blocks : List (List ℕ × List ℕ)
  pub front : List ℕ
  pub rest : List ℕ
  pub parts : HasParts header blocks front rest block
  pub fact : Fact header.version front rest

-- it has the parts of a block, as they show without a key: a rest as long as its version has it
abbrev pub HasLayout : List ℕ → Type 0
HasLayout block = HasPartsSo (λ version front rest. IsTrue (is_sealed_length version (length rest))) block

-- ---- the first fault

-- one that shows without a key
abbrev pub HasLayoutFault : List ℕ → KeyBlockError → Type 0
HasLayoutFault block Length = header_fault block ≡ Some Length
HasLayoutFault block VersionFault = header_fault block ≡ Some VersionFault
HasLayoutFault block HeaderFault = header_fault block ≡ Some HeaderFault
HasLayoutFault block OptionalBlock = (header_fault block ≡ None) × ¬ (HasPartsSo (λ version front rest. Unit {0}) block)
HasLayoutFault block DataLength =
    HasPartsSo (λ version front rest. IsFalse (is_sealed_length version (length rest))) block
HasLayoutFault block _ = ⊥

-- one of what stands after the optional blocks, under a protection key
abbrev pub HasSealFault : List ℕ → Version → List ℕ → List ℕ → KeyBlockError → Type 0
HasSealFault protection version front rest Digit = ¬ (AreHexDigits rest)
HasSealFault protection version front rest Mac =
    AreHexDigits rest × ((clear : List ℕ) → ¬ (IsSealed version protection front clear rest))
HasSealFault protection version front rest KeyLength =
    (clear : List ℕ) × (IsSealed version protection front clear rest × ¬ (IsKeyData clear))
HasSealFault protection version front rest _ = ⊥

-- the protection key's, then those that show without it, then those of what is sealed
abbrev pub HasFault : List ℕ → List ℕ → KeyBlockError → Type 0
HasFault protection block ProtectionKeyLength = IsFalse (is_protection_key protection)
HasFault protection block error =
    IsTrue (is_protection_key protection)
    × (HasLayoutFault block error
    ⊎ HasPartsSo (λ version front rest.
    IsTrue (is_sealed_length version (length rest)) × HasSealFault protection version front rest error) block)
