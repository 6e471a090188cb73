-- The statuses of the faults of PIN verification.
use Rattle.std.specs.Prelude.{ℕ, ℤ, List}
use Rattle.std.specs.Option.{option_or}
use Rattle.des_context.specs.declared.status.TheConstants
use Rattle.des_payment.specs.PinBlocks.{pin_fault}
use Rattle.des_payment.specs.PinVerification.{pvv_fault, table_fault, key_fault}
use Rattle.des_payment.specs.declared.verification_error.VerificationError.{VerificationError}
use Rattle.des_payment.specs.declared.verification_error.VerificationError.TheVariants
use Rattle.des_c.specs.PinStatuses.{status_of as status_of_pin}
use Rattle.des_c.specs.Statuses.{status_after, status_or}

abbrev pub status_of : VerificationError → ℤ
status_of TheVariants.AccountLength = TheConstants.ERR_ACCOUNT_LENGTH
status_of TheVariants.AccountDigit = TheConstants.ERR_ACCOUNT_DIGIT
status_of TheVariants.KeyIndex = TheConstants.ERR_KEY_INDEX
status_of TheVariants.KeyLength = TheConstants.ERR_KEY_LENGTH
status_of TheVariants.PinLength = TheConstants.ERR_PIN_LENGTH
status_of TheVariants.TableLength = TheConstants.ERR_TABLE_LENGTH
status_of TheVariants.TableDigit = TheConstants.ERR_TABLE_DIGIT
status_of TheVariants.TableVariety = TheConstants.ERR_TABLE_VARIETY
status_of TheVariants.WrongPin = TheConstants.ERR_WRONG_PIN

-- ---- the status of the first fault, `OK` if there is none

-- of a PIN, an account number and the index of a key pair
abbrev pub value_status : List ℕ → ℕ → List ℕ → ℤ
value_status account index pin =
    status_or status_of_pin (pin_fault pin) (status_after status_of (pvv_fault account index))

-- of a table and a key; of a PIN or an offset before them
abbrev pub key_status : List ℕ → List ℕ → ℤ
key_status table key = status_after status_of (option_or (table_fault 0 table) (key_fault key))

abbrev pub text_status : List ℕ → List ℕ → List ℕ → ℤ
text_status table key text = status_or status_of_pin (pin_fault text) (key_status table key)

-- of a PIN, then of an offset, and then of a table and a key
abbrev pub offset_status : List ℕ → List ℕ → List ℕ → List ℕ → ℤ
offset_status table key offset pin =
    status_or status_of_pin (pin_fault pin) (text_status table key offset)
