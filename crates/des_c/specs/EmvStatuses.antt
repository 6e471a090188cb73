-- The statuses of the faults of cards' keys and of responses.
use Rattle.std.specs.Prelude.{ℤ}
use Rattle.des_context.specs.declared.status.TheConstants
use Rattle.des_payment.specs.declared.emv_error.EmvError.{EmvError}
use Rattle.des_payment.specs.declared.emv_error.EmvError.TheVariants

abbrev pub status_of : EmvError → ℤ
status_of TheVariants.AccountLength = TheConstants.ERR_ACCOUNT_LENGTH
status_of TheVariants.AccountDigit = TheConstants.ERR_ACCOUNT_DIGIT
status_of TheVariants.SequenceLength = TheConstants.ERR_SEQUENCE_LENGTH
status_of TheVariants.SequenceDigit = TheConstants.ERR_SEQUENCE_DIGIT
status_of TheVariants.DataLength = TheConstants.ERR_DATA_LENGTH
