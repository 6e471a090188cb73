-- Key blocks (ANSI X9.143, ASC X9 TR-31) for triple DES. Texts are lists of ASCII characters.
use Rattle.std.specs.Prelude.{◌≡◌, ℕ, ◌+◌, ◌*◌, ◌%◌, ◌<◌, ◌==◌, ◌&&◌, ◌||◌, Bool, true, false, not, nat_lt, nat_le, if◌then◌else◌, List, ◌++◌, length, take, Option, Some, None, IsTrue}
use Rattle.std.specs.Int.{w16, to_be_bytes}
use Rattle.std.specs.List.{flat_map}
use Rattle.std.specs.Option.{option_or}
use Rattle.des.specs.Blocks.{AreBytes}
use Rattle.des.specs.Cbc.{Cbc}
use Rattle.des.specs.TripleCiphers.{ede3_encryption}
use Rattle.des_mac.specs.CbcMac.{cbc_mac}
use Rattle.des_mac.specs.Cmac.{cmac}
use Rattle.des_key_blocks.specs.Hex.{hex_of}
use Rattle.des_key_blocks.specs.KeyBlockHeaders.{IsHeader, is_written, header_text}
use Rattle.des_key_blocks.specs.OptionalBlocks.{AreOptionalBlocks, are_written, are_placed, blocks_text, filled, size_of_all}
use Rattle.des_key_blocks.specs.ProtectionKeys.{encryption_key, mac_key}
use Rattle.des_key_blocks.specs.declared.key_block_header.Header.{Header}
use Rattle.des_key_blocks.specs.declared.key_block_header.Version.{Version}
use Rattle.des_key_blocks.specs.declared.key_block_header.Version.TheVariants.{A, B, C}
use Rattle.des_key_blocks.specs.declared.key_block_header.KeyContext.{KeyContext}
use Rattle.des_key_blocks.specs.declared.key_block_header.KeyContext.TheVariants.{StorageOrExchange}
use Rattle.des_key_blocks.specs.declared.key_block_error.KeyBlockError.{KeyBlockError}
use Rattle.des_key_blocks.specs.declared.key_block_error.KeyBlockError.TheVariants.{ProtectionKeyLength, Length, Version as VersionFault, Header as HeaderFault, OptionalBlock, KeyLength, PaddingLength}

-- ---- key data, encrypted and authenticated

-- the key's length in bits, the key, and the padding
abbrev pub key_data : List ℕ → List ℕ → List ℕ
key_data key padding = to_be_bytes w16 (8 * length key) ++ (key ++ padding)

abbrev pub joined : List (List ℕ) → List ℕ
joined blocks = flat_map (λ block. block) blocks

-- the tag of the header with its optional blocks, and then in version B of the key data in clear, by CMAC, and in A
-- and C of the encrypted key data, by CBC-MAC
abbrev pub tag_of : Version → List ℕ → List ℕ → List ℕ → List ℕ → List ℕ
tag_of B key header clear encrypted = cmac (ede3_encryption key) (header ++ clear)
tag_of A key header clear encrypted = cbc_mac (ede3_encryption key) (header ++ encrypted)
tag_of C key header clear encrypted = cbc_mac (ede3_encryption key) (header ++ encrypted)

-- how many bytes of it are the MAC
abbrev pub mac_size : Version → ℕ
mac_size B = 8
mac_size A = 4
mac_size C = 4

-- the vector of the encryption: in version B the MAC, in A and C the first eight characters
abbrev pub vector_of : Version → List ℕ → List ℕ → List ℕ
vector_of B header mac = mac
vector_of A header mac = take 8 header
vector_of C header mac = take 8 header

-- what stands after a header with its optional blocks: key data, encrypted and authenticated under a protection key
pub record IsSealed (version : Version) (protection header clear text : List ℕ) : Type 0 where
  pub blocks : List (List ℕ)
  pub encrypted : List (List ℕ)
  pub mac : List ℕ
  pub are_bytes : AreBytes clear
  pub is_clear : joined blocks ≡ clear
  pub is_mac : mac
      ≡ take (mac_size version) (tag_of version (mac_key version protection) header clear (joined encrypted))
  pub chained : Cbc (ede3_encryption (encryption_key version protection)) (vector_of version header mac) blocks
      encrypted
  pub is_text : text ≡ hex_of (joined encrypted) ++ hex_of mac

-- ---- the block

-- a protection key has two parts or three
abbrev pub is_protection_key : List ℕ → Bool
is_protection_key key = length key == 16 || length key == 24

-- a key has one part, two or three
abbrev pub is_key : List ℕ → Bool
is_key key = length key == 8 || length key == 16 || length key == 24

-- the key has 8, 16 or 24 bytes, and with its length and the padding whole blocks of 32 bytes at most
abbrev pub is_key_data : List ℕ → List ℕ → Bool
is_key_data key padding =
    is_key key && (2 + length key + length padding) % 8 == 0 && nat_le (2 + length key + length padding) 32

-- a block is a header of 16 characters with optional blocks that end at a multiple of eight, and a rest
pub record HasParts (header : Header) (blocks : List (List ℕ × List ℕ)) (front rest block : List ℕ) : Type 0 where
  pub context : KeyContext
  pub optional : List ℕ
  pub is_header : IsHeader header
  pub short : length block < 10000
  pub few : length blocks < 100
  pub are_optional : AreOptionalBlocks blocks optional
  pub whole : length optional % 8 ≡ 0
  pub is_front : front ≡ header_text header context (length block) (length blocks) ++ optional
  pub is_block : block ≡ front ++ rest

-- the block of a header, optional blocks, a key and padding under a protection key
pub record IsKeyBlock (protection : List ℕ) (header : Header) (blocks : List (List ℕ × List ℕ))
    (key padding block : List ℕ) : Type 0 where
  pub front : List ℕ
  pub sealed : List ℕ
  pub parts : HasParts header blocks front sealed block
  pub is_protection : IsTrue (is_protection_key protection)
  pub is_clear : IsTrue (is_key_data key padding)
  pub is_sealed : IsSealed header.version protection front (key_data key padding) sealed

-- a block holds a key under a header: with some optional blocks and padding it is theirs
abbrev pub HoldsKey : List ℕ → List ℕ → Header → List ℕ → Type 0
HoldsKey protection block header key =
    (blocks : List (List ℕ × List ℕ)) × ((padding : List ℕ)
    × IsKeyBlock protection header blocks key padding block)

-- ---- what is made

-- blocks of version A are read alone
abbrev pub is_made : Version → Bool
is_made A = false
is_made B = true
is_made C = true

-- the fault of what a block is to be made of, if it has one
abbrev pub parts_fault : List ℕ → Header → List ℕ → List ℕ → Option KeyBlockError
parts_fault protection header key padding =
    if not (is_protection_key protection) then Some ProtectionKeyLength
    else if not (is_made header.version) then Some VersionFault
    else if not (is_written header) then Some HeaderFault
    else if not (is_key key) then Some KeyLength
    else if not (is_key_data key padding) then Some PaddingLength
    else None

-- what is written before key data in a block of `size` characters; the key may be stored and exchanged
abbrev pub front_text : Header → List (List ℕ × List ℕ) → ℕ → List ℕ
front_text header blocks size = header_text header StorageOrExchange size (length blocks) ++ blocks_text blocks

-- how many characters the block has, with as many optional blocks as fill it
abbrev pub size_of_block : Version → List (List ℕ × List ℕ) → List ℕ → List ℕ → ℕ
size_of_block version blocks key padding =
    16 + size_of_all (filled blocks) + 2 * (2 + length key + length padding + mac_size version)

-- the fault of optional blocks: there are 99 at most, with the one that fills them, and a length has four digits
abbrev pub blocks_fault : List (List ℕ × List ℕ) → Option KeyBlockError
blocks_fault blocks =
    if nat_lt 99 (length blocks) then Some OptionalBlock
    else if not (are_written blocks) then Some OptionalBlock
    else if nat_lt 9999 (size_of_all blocks) then Some Length
    else if not (are_placed blocks) then Some OptionalBlock
    else if nat_lt 99 (length (filled blocks)) then Some OptionalBlock
    else None

-- the first fault of a block for which there are this many characters
abbrev pub wrap_fault : List ℕ → Header → List (List ℕ × List ℕ) → List ℕ → List ℕ → ℕ → Option KeyBlockError
wrap_fault protection header blocks key padding capacity =
    let size = size_of_block header.version blocks key padding in
    option_or (parts_fault protection header key padding)
    (option_or (blocks_fault blocks) (if nat_lt 9999 size || nat_lt capacity size then Some Length else None))
