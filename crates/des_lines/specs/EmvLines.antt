-- What answers a calculation with a card's keys and cryptograms, by what was read for it.
use Rattle.std.specs.Prelude.{◌≡◌, ℕ, ◌%◌, ◌==◌, ◌||◌, nat_lt, not, if◌then◌else◌, List, length, Option, Some, Result}
use Rattle.std.specs.Option.{option_map, option_or}
use Rattle.std.specs.declared.vec.Vec.{Vec}
use Rattle.std.specs.declared.alloc.Global.{Global}
use Rattle.des_payment.specs.CardCryptograms.{card_key, card_key_b, card_fault, application_key, session_key, cryptogram, response_1, response_2}
use Rattle.des_lines.specs.declared.requests.Inputs.{Inputs}
use Rattle.des_lines.specs.declared.requests.CardKeyOption.{CardKeyOption}
use Rattle.des_lines.specs.declared.requests.CardKeyOption.TheVariants.{A, B}
use Rattle.des_lines.specs.declared.requests.EmvCalculation.{EmvCalculation}
use Rattle.des_lines.specs.declared.requests.EmvCalculation.TheVariants.{CardKey, ApplicationKey, SessionKey, Cryptogram as MakeCryptogram, Response1, Response2}
use Rattle.des_lines.specs.declared.fault.FaultKind.{FaultKind}
use Rattle.des_lines.specs.declared.fault.FaultKind.TheVariants.{Counter, Cryptogram, ResponseCode, CardStatus, IssuerData, CryptogramData, Emv}
use Rattle.des_lines.specs.Faults.{FailsBy}
use Rattle.des_lines.specs.Keys.{pair_fault}
use Rattle.des_lines.specs.Texts.{bytes_of, text_fault, digits_fault, hex_line}

-- ---- keys

-- the key of a card, by each option
abbrev pub card_key_by : CardKeyOption → List ℕ → List ℕ → List ℕ → List ℕ
card_key_by A issuer account sequence = card_key issuer account sequence
card_key_by B issuer account sequence = card_key_b issuer account sequence

abbrev pub card_key_of : CardKeyOption → List ℕ → Inputs → List ℕ
card_key_of option sequence inputs = card_key_by option (bytes_of inputs.text.now) inputs.account.now sequence

abbrev pub card_key_fault : List ℕ → Inputs → Option FaultKind
card_key_fault sequence inputs =
    option_or (pair_fault inputs.text.now) (option_map Emv (card_fault inputs.account.now sequence))

-- the keys of a session, by a counter or by a cryptogram
abbrev pub application_key_of : List ℕ → List ℕ → List ℕ
application_key_of counter digits = application_key (bytes_of digits) (bytes_of counter)

abbrev pub session_key_of : List ℕ → List ℕ → List ℕ
session_key_of block digits = session_key (bytes_of digits) (bytes_of block)

abbrev pub session_fault : ℕ → FaultKind → List ℕ → List ℕ → Option FaultKind
session_fault size fault text digits = option_or (pair_fault digits) (digits_fault size fault fault text)

-- ---- cryptograms

abbrev pub cryptogram_of : Inputs → List ℕ
cryptogram_of inputs = cryptogram (bytes_of inputs.key.now) (bytes_of inputs.text.now)

-- the fault of the digits of data, of which there is one byte at least
abbrev pub data_text_fault : List ℕ → Option FaultKind
data_text_fault digits =
    if (length digits == 0) || not (length digits % 2 == 0) then Some CryptogramData
    else text_fault CryptogramData digits

abbrev pub cryptogram_fault : Inputs → Option FaultKind
cryptogram_fault inputs = option_or (pair_fault inputs.key.now) (data_text_fault inputs.text.now)

-- ---- responses

abbrev pub response_1_of : List ℕ → List ℕ → List ℕ → List ℕ
response_1_of request code digits = response_1 (bytes_of digits) (bytes_of request) (bytes_of code)

abbrev pub request_fault : List ℕ → Option FaultKind
request_fault request = digits_fault 8 Cryptogram Cryptogram request

abbrev pub response_1_fault : List ℕ → List ℕ → List ℕ → Option FaultKind
response_1_fault request code digits =
    option_or (pair_fault digits) (option_or (request_fault request) (digits_fault 2 ResponseCode ResponseCode code))

abbrev pub response_2_of : List ℕ → List ℕ → List ℕ → List ℕ → List ℕ
response_2_of request status issued digits =
    response_2 (bytes_of digits) (bytes_of request) (bytes_of status) (bytes_of issued)

-- the fault of the digits of the issuer's data, at most eight bytes
abbrev pub issuer_data_fault : List ℕ → Option FaultKind
issuer_data_fault issued =
    if nat_lt 16 (length issued) || not (length issued % 2 == 0) then Some IssuerData
    else text_fault IssuerData issued

abbrev pub response_2_fault : List ℕ → List ℕ → List ℕ → List ℕ → Option FaultKind
response_2_fault request status issued digits =
    option_or (pair_fault digits)
    (option_or (request_fault request)
    (option_or (digits_fault 4 CardStatus CardStatus status) (issuer_data_fault issued)))

-- ---- calculations

-- the line answers the calculation
abbrev pub IsEmvLine : EmvCalculation → Inputs → List ℕ → Type 0
IsEmvLine (CardKey option sequence) inputs line = line ≡ hex_line (card_key_of option sequence.now inputs)
IsEmvLine (ApplicationKey counter) inputs line = line ≡ hex_line (application_key_of counter.now inputs.text.now)
IsEmvLine (SessionKey block) inputs line = line ≡ hex_line (session_key_of block.now inputs.text.now)
IsEmvLine MakeCryptogram inputs line = line ≡ hex_line (cryptogram_of inputs)
IsEmvLine (Response1 request code) inputs line =
    line ≡ hex_line (response_1_of request.now code.now inputs.text.now)
IsEmvLine (Response2 request status issued) inputs line =
    line ≡ hex_line (response_2_of request.now status.now issued.now inputs.text.now)

-- it fails by its first fault
abbrev pub FailsAsEmv : EmvCalculation → Inputs → Result (Vec ℕ Global) FaultKind → Type 0
FailsAsEmv (CardKey option sequence) inputs result = FailsBy (card_key_fault sequence.now inputs) result
FailsAsEmv (ApplicationKey counter) inputs result =
    FailsBy (session_fault 2 Counter counter.now inputs.text.now) result
FailsAsEmv (SessionKey block) inputs result = FailsBy (session_fault 8 Cryptogram block.now inputs.text.now) result
FailsAsEmv MakeCryptogram inputs result = FailsBy (cryptogram_fault inputs) result
FailsAsEmv (Response1 request code) inputs result =
    FailsBy (response_1_fault request.now code.now inputs.text.now) result
FailsAsEmv (Response2 request status issued) inputs result =
    FailsBy (response_2_fault request.now status.now issued.now inputs.text.now) result
