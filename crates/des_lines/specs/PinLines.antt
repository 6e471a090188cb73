-- What answers a calculation with a PIN and a key, by what was read for it.
use Rattle.std.specs.Prelude.{◌≡◌, ◌⊎◌, ℕ, Bool, true, false, List, replicate, codes, Option, None, Result, Ok, Err, IfOk}
use Rattle.std.specs.Option.{option_map, option_or}
use Rattle.std.specs.declared.vec.Vec.{Vec}
use Rattle.std.specs.declared.alloc.Global.{Global}
use Rattle.des_payment.specs.Texts.{values, number_fault}
use Rattle.des_payment.specs.PinBlocks.{pin_fault}
use Rattle.des_payment.specs.PinVerification.{pvv, pvv_fault as value_fault, table_fault, key_fault, natural_fault as count_fault, natural_pin, pin_offset, IsRight}
use Rattle.des_payment.specs.Translation.{IsTranslation, translation_fault, rekeyed, rekeying_fault}
use Rattle.des_payment.specs.declared.translation.Format.{Format}
use Rattle.des_payment.specs.declared.translation.Format.TheVariants.{Format0, Format1, Format2, Format3}
use Rattle.des_payment.specs.declared.verification_error.VerificationError.{VerificationError}
use Rattle.des_payment.specs.declared.verification_error.VerificationError.TheVariants.{WrongPin}
use Rattle.des_lines.specs.declared.requests.Inputs.{Inputs}
use Rattle.des_lines.specs.declared.requests.NaturalPins.{NaturalPins}
use Rattle.des_lines.specs.declared.requests.PinCalculation.{PinCalculation}
use Rattle.des_lines.specs.declared.requests.PinCalculation.TheVariants.{Translate, TranslateFormat1, MakePvv, VerifyPvv, Natural, MakeOffset, VerifyOffset}
use Rattle.des_lines.specs.declared.fault.FaultKind.{FaultKind}
use Rattle.des_lines.specs.declared.fault.FaultKind.TheVariants.{KeyLength, KeyText, ToKeyLength, ToKeyText, Value, Offset, Validation, BlockLength, BlockText, FillLength, FillText, Pin as PinFault, Translation as TranslationFault, Verification as VerificationFault}
use Rattle.des_lines.specs.Faults.{FailsBy}
use Rattle.des_lines.specs.Keys.{any_key_fault, pair_fault}
use Rattle.des_lines.specs.Texts.{bytes_of, digits_fault, fill_of, hex_line, text_line}

-- ---- PIN blocks

-- the fill digits of an outgoing block, which format 3 alone has
abbrev pub fill_for : Format → List ℕ → List ℕ
fill_for Format0 fill = replicate 10 15
fill_for Format1 fill = replicate 10 15
fill_for Format2 fill = replicate 10 15
fill_for Format3 fill = fill_of fill

abbrev pub fill_text_fault : Format → List ℕ → Option FaultKind
fill_text_fault Format0 fill = None
fill_text_fault Format1 fill = None
fill_text_fault Format2 fill = None
fill_text_fault Format3 fill = digits_fault 5 FillLength FillText fill

-- the block of the same PIN under the outgoing key
abbrev pub IsTranslated : Format → Format → List ℕ → Inputs → List ℕ → Type 0
IsTranslated from to fill inputs block =
    IsTranslation (bytes_of inputs.key.now) from (bytes_of inputs.to_key.now) to inputs.account.now (fill_for to fill)
    (bytes_of inputs.text.now) block

-- the first fault of the digits of the key, of the outgoing key and of the block
abbrev pub block_text_fault : Inputs → Option FaultKind
block_text_fault inputs =
    option_or (any_key_fault (KeyLength None) KeyText inputs.key.now)
    (option_or (any_key_fault ToKeyLength ToKeyText inputs.to_key.now)
    (digits_fault 8 BlockLength BlockText inputs.text.now))

-- the first fault: of those, of the fill digits, and then those of the translation
abbrev pub translated_fault : Format → Format → List ℕ → Inputs → Option FaultKind
translated_fault from to fill inputs =
    option_or (block_text_fault inputs)
    (option_or (fill_text_fault to fill)
    (option_map TranslationFault
    (translation_fault (bytes_of inputs.key.now) from (bytes_of inputs.to_key.now) to inputs.account.now
    (fill_for to fill) (bytes_of inputs.text.now))))

-- the block of format 1 under the outgoing key, and the first fault in the same order
abbrev pub rekeyed_by : Inputs → List ℕ
rekeyed_by inputs = rekeyed (bytes_of inputs.key.now) (bytes_of inputs.to_key.now) (bytes_of inputs.text.now)

abbrev pub rekeyed_fault : Inputs → Option FaultKind
rekeyed_fault inputs =
    option_or (block_text_fault inputs)
    (option_map TranslationFault
    (rekeying_fault (bytes_of inputs.key.now) (bytes_of inputs.to_key.now) (bytes_of inputs.text.now)))

-- ---- verdicts

-- the line says whether something holds
abbrev pub IsVerdictLine : Type 0 → List ℕ → Type 0
IsVerdictLine Holds line = (Holds × (line ≡ codes "right\n")) ⊎ ((¬ Holds) × (line ≡ codes "wrong\n"))

-- the line of a verification, unless memory is refused, or its fault
abbrev pub TellsOutcome : Result (Unit {0}) VerificationError → Result (Vec ℕ Global) FaultKind → Type 0
TellsOutcome (Ok right) result = FailsBy None result × IfOk result (λ line. line.items ≡ codes "right\n")
TellsOutcome (Err WrongPin) result = FailsBy None result × IfOk result (λ line. line.items ≡ codes "wrong\n")
TellsOutcome (Err error) result = result ≡ Err (VerificationFault error)

-- ---- PIN verification values

-- the value of a PIN
abbrev pub pvv_of : ℕ → Inputs → List ℕ
pvv_of index inputs = pvv (bytes_of inputs.key.now) inputs.account.now index inputs.text.now

abbrev pub pvv_fault : ℕ → Inputs → Option FaultKind
pvv_fault index inputs =
    option_or (pair_fault inputs.key.now)
    (option_or (option_map PinFault (pin_fault inputs.text.now))
    (option_map VerificationFault (value_fault inputs.account.now index)))

-- a value is that of the PIN
abbrev pub HasPvv : ℕ → List ℕ → Inputs → Type 0
HasPvv index value inputs = value ≡ pvv_of index inputs

abbrev pub pvv_verdict_fault : ℕ → List ℕ → Inputs → Option FaultKind
pvv_verdict_fault index value inputs =
    option_or (pair_fault inputs.key.now)
    (option_or (option_map PinFault (pin_fault inputs.text.now))
    (option_or (number_fault 4 4 Value Value value)
    (option_map VerificationFault (value_fault inputs.account.now index))))

-- ---- natural PINs and offsets

-- a table has eight different digits at least, unless any is taken
abbrev pub least_variety : (takes_any_table : Bool) → ℕ
least_variety true = 0
least_variety false = 8

-- the first fault of the validation data and of the table
abbrev pub data_fault : NaturalPins → Option FaultKind
data_fault by =
    option_or (digits_fault 8 Validation Validation by.validation.now)
    (option_map VerificationFault (table_fault (least_variety by.takes_any_table) by.table.now))

-- the natural PIN of a number of digits
abbrev pub natural_pin_by : NaturalPins → ℕ → List ℕ → List ℕ
natural_pin_by by count digits =
    natural_pin (bytes_of digits) (values by.table.now) (bytes_of by.validation.now) count

abbrev pub natural_fault : NaturalPins → ℕ → List ℕ → Option FaultKind
natural_fault by count digits =
    option_or (any_key_fault (KeyLength None) KeyText digits)
    (option_or (data_fault by) (option_map VerificationFault (count_fault (bytes_of digits) count)))

-- the first fault of the digits of the key and of the PIN
abbrev pub key_and_pin_fault : Inputs → Option FaultKind
key_and_pin_fault inputs =
    option_or (any_key_fault (KeyLength None) KeyText inputs.key.now) (option_map PinFault (pin_fault inputs.text.now))

-- the offset of a PIN
abbrev pub offset_by : NaturalPins → Inputs → List ℕ
offset_by by inputs =
    pin_offset (bytes_of inputs.key.now) (values by.table.now) (bytes_of by.validation.now) inputs.text.now

abbrev pub offset_fault : NaturalPins → Inputs → Option FaultKind
offset_fault by inputs =
    option_or (key_and_pin_fault inputs)
    (option_or (data_fault by) (option_map VerificationFault (key_fault (bytes_of inputs.key.now))))

-- a PIN has this offset
abbrev pub HasOffset : NaturalPins → List ℕ → Inputs → Type 0
HasOffset by offset inputs =
    IsRight (bytes_of inputs.key.now) (values by.table.now) (bytes_of by.validation.now) offset inputs.text.now

abbrev pub offset_verdict_fault : NaturalPins → List ℕ → Inputs → Option FaultKind
offset_verdict_fault by offset inputs =
    option_or (key_and_pin_fault inputs)
    (option_or (data_fault by)
    (option_or (number_fault 4 12 Offset Offset offset)
    (option_map VerificationFault (key_fault (bytes_of inputs.key.now)))))

-- ---- calculations

abbrev pub IsPinLine : PinCalculation → Inputs → List ℕ → Type 0
IsPinLine (Translate from to fill) inputs line =
    (block : List ℕ) × (IsTranslated from to fill.now inputs block × (line ≡ hex_line block))
IsPinLine TranslateFormat1 inputs line = line ≡ hex_line (rekeyed_by inputs)
IsPinLine (MakePvv index) inputs line = line ≡ text_line (pvv_of index inputs)
IsPinLine (VerifyPvv index value) inputs line = IsVerdictLine (HasPvv index value.now inputs) line
IsPinLine (Natural by count) inputs line = line ≡ text_line (natural_pin_by by count inputs.text.now)
IsPinLine (MakeOffset by) inputs line = line ≡ text_line (offset_by by inputs)
IsPinLine (VerifyOffset by offset) inputs line = IsVerdictLine (HasOffset by offset.now inputs) line

-- the first fault
abbrev pub pin_line_fault : PinCalculation → Inputs → Option FaultKind
pin_line_fault (Translate from to fill) inputs = translated_fault from to fill.now inputs
pin_line_fault TranslateFormat1 inputs = rekeyed_fault inputs
pin_line_fault (MakePvv index) inputs = pvv_fault index inputs
pin_line_fault (VerifyPvv index value) inputs = pvv_verdict_fault index value.now inputs
pin_line_fault (Natural by count) inputs = natural_fault by count inputs.text.now
pin_line_fault (MakeOffset by) inputs = offset_fault by inputs
pin_line_fault (VerifyOffset by offset) inputs = offset_verdict_fault by offset.now inputs

-- the calculation asks whether a PIN is right
abbrev pub is_question : PinCalculation → Bool
is_question (Translate from to fill) = false
is_question TranslateFormat1 = false
is_question (MakePvv index) = false
is_question (VerifyPvv index value) = true
is_question (Natural by count) = false
is_question (MakeOffset by) = false
is_question (VerifyOffset by offset) = true
