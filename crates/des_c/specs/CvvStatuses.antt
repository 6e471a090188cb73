-- The statuses of the faults of card verification values.
use Rattle.std.specs.Prelude.{ℤ}
use Rattle.des_context.specs.declared.status.TheConstants
use Rattle.des_payment.specs.declared.cvv_error.CvvError.{CvvError}
use Rattle.des_payment.specs.declared.cvv_error.CvvError.TheVariants

abbrev pub status_of : CvvError → ℤ
status_of TheVariants.AccountLength = TheConstants.ERR_ACCOUNT_LENGTH
status_of TheVariants.AccountDigit = TheConstants.ERR_ACCOUNT_DIGIT
status_of TheVariants.ExpiryLength = TheConstants.ERR_EXPIRY_LENGTH
status_of TheVariants.ExpiryDigit = TheConstants.ERR_EXPIRY_DIGIT
status_of TheVariants.ServiceLength = TheConstants.ERR_SERVICE_LENGTH
status_of TheVariants.ServiceDigit = TheConstants.ERR_SERVICE_DIGIT
