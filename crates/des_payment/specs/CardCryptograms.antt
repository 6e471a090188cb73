-- Card cryptograms (EMV 4.3, Book 2). Account numbers and sequence numbers are texts.
use Rattle.std.specs.Prelude.{ℕ, ◌%◌, nat_lt, if◌then◌else◌, List, ◌∷◌, ◌++◌, map, length, take, drop, replicate, codes, Option, Some, None}
use Rattle.std.specs.Option.{option_or}
use Rattle.sha1.specs.Sha1.{sha1}
use Rattle.des.specs.Cbc.{xor_blocks}
use Rattle.des.specs.Des.{encryption, decryption}
use Rattle.des.specs.TripleCiphers.{ede2_encryption}
use Rattle.des_mac.specs.Padding.{padded, one_bit_after}
use Rattle.des_mac.specs.RetailMac.{retail_mac_of}
use Rattle.des_payment.specs.CardVerification.{decimals_first}
use Rattle.des_payment.specs.Components.{odd}
use Rattle.des_payment.specs.Digits.{digits_of, bytes_of}
use Rattle.des_payment.specs.Texts.{values, number_fault}
use Rattle.des_payment.specs.declared.emv_error.EmvError.{EmvError}
use Rattle.des_payment.specs.declared.emv_error.EmvError.TheVariants.{AccountLength, AccountDigit, SequenceLength, SequenceDigit, DataLength}

-- ---- the card's key by option A (A1.4.1)

-- the sixteen rightmost digits of a number, with zeros at the left: 48 is the character 0
abbrev pub rightmost : List ℕ → List ℕ
rightmost digits = drop (length digits) (replicate 16 48 ++ digits)

-- the block of the account number and the sequence number
abbrev pub card_block : List ℕ → List ℕ → List ℕ
card_block account sequence = bytes_of (values (rightmost (account ++ sequence)))

-- two blocks encrypted under a key, one after the other
abbrev pub both : List ℕ → List ℕ → List ℕ → List ℕ
both key left right = ede2_encryption key left ++ ede2_encryption key right

-- the block and its complement encrypted under the issuer's key, with odd parity
abbrev pub key_of_block : List ℕ → List ℕ → List ℕ
key_of_block issuer block = map odd (both issuer block (xor_blocks block (replicate 8 0xff)))

abbrev pub card_key : List ℕ → List ℕ → List ℕ → List ℕ
card_key issuer account sequence = key_of_block issuer (card_block account sequence)

-- ---- and by option B (A1.4.2)

-- the bytes that digits write, two a byte, after a zero if they are odd in number
abbrev pub even_bytes : List ℕ → List ℕ
even_bytes digits = bytes_of (values (replicate (length digits % 2) 48 ++ digits))

-- the block of both numbers: the first sixteen digits of their hash, those below ten first, and then the
-- others, less ten
abbrev pub hashed_block : List ℕ → List ℕ → List ℕ
hashed_block account sequence =
    bytes_of (take 16 (decimals_first (digits_of (sha1 (even_bytes (account ++ sequence))))))

-- the card's key: of an account number of at most sixteen digits that by option A
abbrev pub card_key_b : List ℕ → List ℕ → List ℕ → List ℕ
card_key_b issuer account sequence =
    key_of_block issuer
    (if nat_lt 16 (length account) then hashed_block account sequence else card_block account sequence)

-- the first fault
abbrev pub card_fault : List ℕ → List ℕ → Option EmvError
card_fault account sequence =
    option_or (number_fault 8 19 AccountLength AccountDigit account)
    (number_fault 2 2 SequenceLength SequenceDigit sequence)

-- ---- session keys (A1.3)

-- the block with another third byte
abbrev pub with_third : ℕ → List ℕ → List ℕ
with_third byte block = take 2 block ++ byte ∷ drop 3 block

-- the session key of a card's key and a block that is different for each session
abbrev pub session_key : List ℕ → List ℕ → List ℕ
session_key card block = both card (with_third 0xf0 block) (with_third 0x0f block)

-- that of application cryptograms, by the transaction counter
abbrev pub application_key : List ℕ → List ℕ → List ℕ
application_key card counter = session_key card (counter ++ replicate 6 0)

-- ---- cryptograms (8.1 and 8.2)

-- the retail MAC with padding method 2 under the two halves of the session key
abbrev pub cryptogram : List ℕ → List ℕ → List ℕ
cryptogram session bytes = retail_mac_of 8 encryption decryption session (padded one_bit_after bytes)

-- the response by method 1 (8.2.1), of an application cryptogram and a response code
abbrev pub response_1 : List ℕ → List ℕ → List ℕ → List ℕ
response_1 session request code = ede2_encryption session (xor_blocks request (code ++ replicate 6 0))

-- the response by method 2 (8.2.2), of an application cryptogram, a status and at most eight bytes
abbrev pub response_2 : List ℕ → List ℕ → List ℕ → List ℕ → List ℕ
response_2 session request status bytes = take 4 (cryptogram session (request ++ status ++ bytes))

abbrev pub data_fault : List ℕ → Option EmvError
data_fault bytes = if nat_lt 8 (length bytes) then Some DataLength else None

-- the name that `Display` writes
abbrev pub name_of : EmvError → List ℕ
name_of AccountLength = codes "AccountLength"
name_of AccountDigit = codes "AccountDigit"
name_of SequenceLength = codes "SequenceLength"
name_of SequenceDigit = codes "SequenceDigit"
name_of DataLength = codes "DataLength"
