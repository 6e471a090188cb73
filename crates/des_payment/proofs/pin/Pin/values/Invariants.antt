use Rattle.std.proofs.Common.{◌≡◌, ◌++◌, take, drop}
use Rattle.des_payment.specs.Texts.{values}
use Rattle.des_payment.proofs.pin.Pin.values.Given as goal

-- the characters before the index are values, and those from it on are as they were
abbrev pub invariant-loop-character : goal.invariant-loop-character
invariant-loop-character l =
    l.character-items
    ≡ values (take l.character-index l.initial.character-items) ++ drop l.character-index l.initial.character-items
