use Rattle.std.proofs.Common.{◌≡◌, ◌++◌, take, drop}
use Rattle.des_payment.specs.Texts.{text_of}
use Rattle.des_payment.proofs.texts.to_text.Given as goal

-- the values before the index are digits, and those from it on are as they were
abbrev pub invariant-loop-digit : goal.invariant-loop-digit
invariant-loop-digit l = l.digits ≡ text_of (take l.digit-index l.initial.digits) ++ drop l.digit-index l.initial.digits
