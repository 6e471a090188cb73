-- The statuses of the faults of translation.
use Rattle.std.specs.Prelude.{ℤ}
use Rattle.des_context.specs.declared.status.TheConstants
use Rattle.des_payment.specs.declared.translation_error.TranslationError.{TranslationError}
use Rattle.des_payment.specs.declared.translation_error.TranslationError.TheVariants

abbrev pub status_of : TranslationError → ℤ
status_of TheVariants.KeyLength = TheConstants.ERR_KEY_LENGTH
status_of TheVariants.Formats = TheConstants.ERR_FORMATS
status_of TheVariants.AccountLength = TheConstants.ERR_ACCOUNT_LENGTH
status_of TheVariants.AccountDigit = TheConstants.ERR_ACCOUNT_DIGIT
status_of TheVariants.Fill = TheConstants.ERR_FILL
status_of TheVariants.Block = TheConstants.ERR_PIN_BLOCK
