-- The statuses of the faults of PIN blocks.
use Rattle.std.specs.Prelude.{ℤ}
use Rattle.des_context.specs.declared.status.TheConstants
use Rattle.des_payment.specs.declared.pin_error.PinError.{PinError}
use Rattle.des_payment.specs.declared.pin_error.PinError.TheVariants

abbrev pub status_of : PinError → ℤ
status_of TheVariants.Format = TheConstants.ERR_FORMAT
status_of TheVariants.PinLength = TheConstants.ERR_PIN_LENGTH
status_of TheVariants.PinDigit = TheConstants.ERR_PIN_DIGIT
status_of TheVariants.AccountLength = TheConstants.ERR_ACCOUNT_LENGTH
status_of TheVariants.AccountDigit = TheConstants.ERR_ACCOUNT_DIGIT
status_of TheVariants.Fill = TheConstants.ERR_FILL
