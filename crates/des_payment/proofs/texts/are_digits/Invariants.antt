use Rattle.std.proofs.Common.{◌≡◌, take}
use Rattle.des_payment.specs.Texts.{are_digits}
use Rattle.des_payment.proofs.texts.are_digits.Given as goal

-- whether the characters before the index are digits
abbrev pub invariant-loop-character : goal.invariant-loop-character
invariant-loop-character l = l.all ≡ are_digits (take l.character-index l.text)
