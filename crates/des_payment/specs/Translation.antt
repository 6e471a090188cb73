-- Translation of PIN blocks (ISO 9564-1): a block that is encrypted under one key becomes the block
-- of the same PIN under another, perhaps in another format.
use Rattle.std.specs.Prelude.{◌≡◌, ℕ, ◌&&◌, Bool, true, false, not, if◌then◌else◌, List, codes, Option, Some, None}
use Rattle.std.specs.Option.{option_or}
use Rattle.des.specs.Cbc.{xor_blocks}
use Rattle.des_payment.specs.Digits.{digits_of}
use Rattle.des_payment.specs.Texts.{number_fault}
use Rattle.des_payment.specs.PinBlocks.{IsFormat0, IsFormat1, IsFormat2, IsFormat3, account_field, field_fault, is_fill}
use Rattle.std.specs.List.{list_all}
use Rattle.des_payment.specs.KeyLengths.{is_key, encryption_by, decryption_by}
use Rattle.des_payment.specs.declared.pin_error.PinError.{PinError}
use Rattle.des_payment.specs.declared.translation.Format.{Format}
use Rattle.des_payment.specs.declared.translation.Format.TheVariants.{Format0, Format1, Format2, Format3}
use Rattle.des_payment.specs.declared.translation_error.TranslationError.{TranslationError}
use Rattle.des_payment.specs.declared.translation_error.TranslationError.TheVariants.{KeyLength, Formats, AccountLength, AccountDigit, Fill, Block}

-- ---- which translations there are

-- from a format that a host decrypts, all but 2, to one that binds the PIN to an account number; a
-- block of format 1 that stays one is `rekeyed`
abbrev pub is_origin : Format → Bool
is_origin Format0 = true
is_origin Format1 = true
is_origin Format2 = false
is_origin Format3 = true

abbrev pub is_target : Format → Bool
is_target Format0 = true
is_target Format1 = false
is_target Format2 = false
is_target Format3 = true

-- ---- blocks in a format

-- the block of a PIN in a format; an account number and fill digits count if the format has them
abbrev pub IsIn : Format → List ℕ → List ℕ → List ℕ → List ℕ → Type 0
IsIn Format0 pin account fill block = IsFormat0 pin account block
IsIn Format1 pin account fill block = IsFormat1 pin fill block
IsIn Format2 pin account fill block = IsFormat2 pin block
IsIn Format3 pin account fill block = IsFormat3 pin account fill block

-- the fault of a block that is to be in a format, if it has one
abbrev pub block_fault : Format → List ℕ → List ℕ → Option PinError
block_fault Format0 account block =
    field_fault 0 15 (xor_blocks (digits_of block) (account_field account))
block_fault Format1 account block = field_fault 1 0 (digits_of block)
block_fault Format2 account block = field_fault 2 15 (digits_of block)
block_fault Format3 account block =
    field_fault 3 10 (xor_blocks (digits_of block) (account_field account))

-- ---- the translated block

-- the two blocks in clear are of one PIN
abbrev pub IsTranslation : List ℕ → Format → List ℕ → Format → List ℕ → List ℕ → List ℕ → List ℕ → Type 0
IsTranslation incoming from outgoing to account fill block translated =
    (pin other next : List ℕ) × IsIn from pin account other (decryption_by incoming block)
    × IsIn to pin account fill next × (translated ≡ encryption_by outgoing next)

-- the faults of what is asked for: of the keys, of the formats, of the account number, of the fill
-- digits, which format 3 alone has
abbrev pub key_fault : List ℕ → Option TranslationError
key_fault key = if not (is_key key) then Some KeyLength else None

abbrev pub formats_fault : Format → Format → Option TranslationError
formats_fault from to = if not (is_origin from && is_target to) then Some Formats else None

abbrev pub fill_fault : Format → List ℕ → Option TranslationError
fill_fault Format3 fill = if not (list_all (is_fill 10) fill) then Some Fill else None
fill_fault to fill = None

abbrev pub request_fault : List ℕ → Format → List ℕ → Format → List ℕ → List ℕ → Option TranslationError
request_fault incoming from outgoing to account fill =
    option_or (key_fault incoming)
    (option_or (key_fault outgoing)
    (option_or (formats_fault from to)
    (option_or (number_fault 8 19 AccountLength AccountDigit account) (fill_fault to fill))))

-- one fault for all those of the block
abbrev pub one_fault : Option PinError → Option TranslationError
one_fault None = None
one_fault (Some fault) = Some Block

-- the first fault
abbrev pub translation_fault : List ℕ → Format → List ℕ → Format → List ℕ → List ℕ → List ℕ → Option TranslationError
translation_fault incoming from outgoing to account fill block =
    option_or (request_fault incoming from outgoing to account fill)
    (one_fault (block_fault from account (decryption_by incoming block)))

-- ---- a block of format 1 under another key

-- the block in clear, with its transaction digits, is the same
abbrev pub rekeyed : List ℕ → List ℕ → List ℕ → List ℕ
rekeyed incoming outgoing block = encryption_by outgoing (decryption_by incoming block)

-- the first fault: of the keys, and then of the block, whose transaction digits are any
abbrev pub rekeying_fault : List ℕ → List ℕ → List ℕ → Option TranslationError
rekeying_fault incoming outgoing block =
    option_or (key_fault incoming)
    (option_or (key_fault outgoing) (one_fault (field_fault 1 0 (digits_of (decryption_by incoming block)))))

-- the name that `Display` writes
abbrev pub name_of : TranslationError → List ℕ
name_of KeyLength = codes "KeyLength"
name_of Formats = codes "Formats"
name_of AccountLength = codes "AccountLength"
name_of AccountDigit = codes "AccountDigit"
name_of Fill = codes "Fill"
name_of Block = codes "Block"
