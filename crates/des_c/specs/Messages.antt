-- The messages of a transaction.
use Rattle.std.specs.Prelude.{Bool, true, false}
use Rattle.des_payment.specs.declared.dukpt.MessageDirection.{MessageDirection}
use Rattle.des_payment.specs.declared.dukpt.MessageDirection.TheVariants.{Request, Response}

abbrev pub message_of : Bool → MessageDirection
message_of true = Response
message_of false = Request
