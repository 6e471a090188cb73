-- What answers a calculation, by what was read for it.
use Rattle.std.specs.Prelude.{◌≡◌, ◌⊎◌, ℕ, ◌*◌, ◌/◌, ◌==◌, ◌||◌, nat_lt, count_ones, if◌then◌else◌, Bool, List, length, map, replicate, take, codes, Option, Some, None, Result}
use Rattle.std.specs.Option.{option_map, option_or}
use Rattle.std.specs.Simd.{first_chunks}
use Rattle.std.specs.declared.vec.Vec.{Vec}
use Rattle.std.specs.declared.alloc.Global.{Global}
use Rattle.des.specs.Cbc.{xor_blocks}
use Rattle.des.specs.Relations.{IsTheOne}
use Rattle.des.specs.WeakKeys.{IsRefused}
use Rattle.des_payment.specs.CardVerification.{verification_value, card_fault}
use Rattle.des_payment.specs.Components.{combined, odd}
use Rattle.des_payment.specs.Digits.{digits_of}
use Rattle.des_payment.specs.KeyLengths.{encryption_by}
use Rattle.des_payment.specs.Dukpt.{counter_of, initial_key, transaction_key, pin_key, mac_key, data_key, data_variant}
use Rattle.des_payment.specs.PinBlocks.{IsFormat0, IsFormat1, IsFormat2, IsFormat3, account_field, pin_fault, account_fault, fill_fault, field_fault}
use Rattle.des_payment.specs.declared.translation.Format.{Format}
use Rattle.des_payment.specs.declared.translation.Format.TheVariants.{Format0, Format1, Format2, Format3}
use Rattle.des_lines.specs.declared.requests.Calculation.{Calculation}
use Rattle.des_lines.specs.declared.requests.Calculation.TheVariants.{CheckValue, Parity, Weak, Combine, CombineBytes, Encode, Decode, Transaction, Cvv, Pin as PinByKey, Emv as EmvByKey, KeyBlock}
use Rattle.des_lines.specs.declared.requests.Inputs.{Inputs}
use Rattle.des_lines.specs.declared.requests.Purpose.{Purpose}
use Rattle.des_lines.specs.declared.requests.Purpose.TheVariants.{Pin, Mac, Data, DataVariant}
use Rattle.des_lines.specs.declared.fault.FaultKind.{FaultKind}
use Rattle.des_lines.specs.declared.fault.FaultKind.TheVariants.{KeyLength, KeyText, Components, BlockLength, BlockText, SerialLength, SerialText, SerialCounter, FillLength, FillText, Pin as PinFault, Cvv as CvvFault}
use Rattle.des_lines.specs.Faults.{FailsBy, FailsOrRefuses}
use Rattle.des_lines.specs.Keys.{key_fault, pair_fault}
use Rattle.des_lines.specs.PinLines.{IsPinLine, pin_line_fault}
use Rattle.des_lines.specs.EmvLines.{IsEmvLine, FailsAsEmv}
use Rattle.des_lines.specs.KeyBlockLines.{AnswersKeyBlock, FailsAsKeyBlock}
use Rattle.des_lines.specs.Texts.{bytes_of, text_fault, digits_fault, fill_of, hex_line, text_line}

-- ---- keys

-- the first bytes, of three, of what a key of 8, 16 or 24 bytes makes of zeros
abbrev pub check_value_of : ℕ → List ℕ → List ℕ
check_value_of count digits = take count (take 3 (encryption_by (bytes_of digits) (replicate 8 0)))

-- the line of a key of which each byte is given odd parity
abbrev pub parity_line : List ℕ → List ℕ
parity_line digits = hex_line (map odd (bytes_of digits))

-- the line says whether a key is weak
abbrev pub IsWeakLine : List ℕ → List ℕ → Type 0
IsWeakLine key line =
    (IsRefused key × (line ≡ codes "weak\n")) ⊎ ((¬ IsRefused key) × (line ≡ codes "not weak\n"))

-- ---- components

-- the key of components of a size, one after another
abbrev pub key_of_components : ℕ → List ℕ → List ℕ
key_of_components size bytes = combined (first_chunks size (length bytes / size) bytes)

-- a key has two components at least
abbrev pub few_fault : ℕ → Option FaultKind
few_fault count = if nat_lt count 2 then Some Components else None

-- the size of a key by its number: 8, 16 or else 24
abbrev pub key_size_of : ℕ → ℕ
key_size_of size = if size == 8 then 8 else if size == 16 then 16 else 24

-- the bytes of each of a number of components, by the digits of all
abbrev pub component_size : ℕ → List ℕ → ℕ
component_size count digits =
    if length digits == 16 * count then 8
    else if length digits == 32 * count then 16
    else 24

abbrev pub key_of_count : ℕ → List ℕ → List ℕ
key_of_count count digits = key_of_components (component_size count digits) (bytes_of digits)

abbrev pub components_fault : ℕ → List ℕ → Option FaultKind
components_fault count digits =
    if nat_lt count 2 then Some Components
    else if length digits == 16 * count then text_fault KeyText digits
    else if length digits == 32 * count then text_fault KeyText digits
    else if length digits == 48 * count then text_fault KeyText digits
    else Some (KeyLength None)

-- ---- PIN blocks

-- the block of a PIN in a format, by the transaction or fill digits and the account number, if it takes them
abbrev pub IsEncoded : Format → List ℕ → List ℕ → List ℕ → List ℕ → Type 0
IsEncoded Format0 fill account pin block = IsTheOne (IsFormat0 pin account) block
IsEncoded Format1 fill account pin block = IsTheOne (IsFormat1 pin (fill_of fill)) block
IsEncoded Format2 fill account pin block = IsTheOne (IsFormat2 pin) block
IsEncoded Format3 fill account pin block = IsTheOne (IsFormat3 pin account (fill_of fill)) block

abbrev pub encoding_fault : Format → List ℕ → List ℕ → Option FaultKind
encoding_fault Format0 fill account = option_map PinFault (account_fault account)
encoding_fault Format1 fill account =
    option_or (digits_fault 5 FillLength FillText fill) (option_map PinFault (fill_fault 0 (fill_of fill)))
encoding_fault Format2 fill account = None
encoding_fault Format3 fill account =
    option_or (digits_fault 5 FillLength FillText fill)
    (option_map PinFault (option_or (account_fault account) (fill_fault 10 (fill_of fill))))

abbrev pub IsDecoded : Format → List ℕ → List ℕ → List ℕ → Type 0
IsDecoded Format0 account pin block = IsFormat0 pin account block
IsDecoded Format1 account pin block = (transaction : List ℕ) × IsFormat1 pin transaction block
IsDecoded Format2 account pin block = IsFormat2 pin block
IsDecoded Format3 account pin block = (fill : List ℕ) × IsFormat3 pin account fill block

abbrev pub decoding_fault : Format → List ℕ → List ℕ → Option FaultKind
decoding_fault Format0 account block =
    option_map PinFault (option_or (account_fault account)
    (field_fault 0 15 (xor_blocks (digits_of block) (account_field account))))
decoding_fault Format1 account block = option_map PinFault (field_fault 1 0 (digits_of block))
decoding_fault Format2 account block = option_map PinFault (field_fault 2 15 (digits_of block))
decoding_fault Format3 account block =
    option_map PinFault (option_or (account_fault account)
    (field_fault 3 10 (xor_blocks (digits_of block) (account_field account))))

-- ---- the keys of a transaction

abbrev pub key_for : Purpose → List ℕ → List ℕ
key_for Pin transaction = pin_key transaction
key_for (Mac message) transaction = mac_key message transaction
key_for (Data message) transaction = data_key message transaction
key_for (DataVariant message) transaction = data_variant message transaction

-- the initial key of a serial number, if a key is that or the base derivation key
abbrev pub initial_key_of : (is_initial : Bool) → List ℕ → List ℕ → List ℕ
initial_key_of is_initial key serial = if is_initial then key else initial_key key serial

-- the key of the transaction of a serial number
abbrev pub transaction_key_of : (is_initial : Bool) → List ℕ → List ℕ → List ℕ
transaction_key_of is_initial serial digits =
    transaction_key (initial_key_of is_initial (bytes_of digits) (bytes_of serial)) (bytes_of serial)

-- no transaction has a counter of 0, nor one of more than ten one bits
abbrev pub counter_fault : List ℕ → Option FaultKind
counter_fault serial =
    if counter_of serial == 0 || nat_lt 10 (count_ones (counter_of serial)) then Some SerialCounter else None

abbrev pub transaction_fault : List ℕ → List ℕ → Option FaultKind
transaction_fault serial digits =
    option_or (pair_fault digits)
    (option_or (digits_fault 10 SerialLength SerialText serial) (counter_fault (bytes_of serial)))

-- ---- card verification values

abbrev pub cvv_of : List ℕ → List ℕ → Inputs → List ℕ
cvv_of expiry service inputs = verification_value (bytes_of inputs.text.now) inputs.account.now expiry service

abbrev pub cvv_fault : List ℕ → List ℕ → Inputs → Option FaultKind
cvv_fault expiry service inputs =
    option_or (pair_fault inputs.text.now) (option_map CvvFault (card_fault inputs.account.now expiry service))

-- ---- calculations

-- the line answers the calculation: the library's answer to the bytes of the text, in digits
abbrev pub IsLine : Calculation → Inputs → List ℕ → Type 0
IsLine (CheckValue count) inputs line = line ≡ hex_line (check_value_of count inputs.text.now)
IsLine Parity inputs line = line ≡ parity_line inputs.text.now
IsLine Weak inputs line = IsWeakLine (bytes_of inputs.text.now) line
IsLine (Combine count) inputs line = line ≡ hex_line (key_of_count count inputs.text.now)
IsLine (CombineBytes size) inputs line = line ≡ hex_line (key_of_components (key_size_of size) inputs.text.now)
IsLine (Encode format fill) inputs line =
    (block : List ℕ) × (IsEncoded format fill.now inputs.account.now inputs.text.now block × (line ≡ hex_line block))
IsLine (Decode format) inputs line =
    (pin : List ℕ) × (IsDecoded format inputs.account.now pin (bytes_of inputs.text.now) × (line ≡ text_line pin))
IsLine (Transaction serial purpose is_initial) inputs line =
    line ≡ hex_line (key_for purpose (transaction_key_of is_initial serial.now inputs.text.now))
IsLine (Cvv expiry service) inputs line = line ≡ text_line (cvv_of expiry.now service.now inputs)
IsLine (PinByKey calculation) inputs line = IsPinLine calculation inputs line
IsLine (EmvByKey calculation) inputs line = IsEmvLine calculation inputs line
IsLine (KeyBlock calculation) inputs line = AnswersKeyBlock calculation inputs line

-- how a calculation fails: by its first fault, if it has one
abbrev pub FailsAs : Calculation → Inputs → Result (Vec ℕ Global) FaultKind → Type 0
FailsAs (CheckValue count) inputs result = FailsBy (key_fault None inputs.text.now) result
FailsAs Parity inputs result = FailsBy (key_fault None inputs.text.now) result
FailsAs Weak inputs result = FailsBy (key_fault None inputs.text.now) result
FailsAs (Combine count) inputs result =
    FailsOrRefuses (components_fault count inputs.text.now) (IsRefused (key_of_count count inputs.text.now)) result
FailsAs (CombineBytes size) inputs result =
    FailsOrRefuses (few_fault (length inputs.text.now / key_size_of size))
    (IsRefused (key_of_components (key_size_of size) inputs.text.now)) result
FailsAs (Encode format fill) inputs result =
    FailsBy (option_or (option_map PinFault (pin_fault inputs.text.now))
    (encoding_fault format fill.now inputs.account.now)) result
FailsAs (Decode format) inputs result =
    FailsBy (option_or (digits_fault 8 BlockLength BlockText inputs.text.now)
    (decoding_fault format inputs.account.now (bytes_of inputs.text.now))) result
FailsAs (Transaction serial purpose is_initial) inputs result = FailsBy (transaction_fault serial.now inputs.text.now) result
FailsAs (Cvv expiry service) inputs result = FailsBy (cvv_fault expiry.now service.now inputs) result
FailsAs (PinByKey calculation) inputs result = FailsBy (pin_line_fault calculation inputs) result
FailsAs (EmvByKey calculation) inputs result = FailsAsEmv calculation inputs result
FailsAs (KeyBlock calculation) inputs result = FailsAsKeyBlock calculation inputs result
