use Rattle.std.proofs.Common.{◌≡◌, ◌++◌, map, take, drop}
use Rattle.des_payment.specs.Components.{odd}
use Rattle.des_payment.proofs.components.set_odd_parity.Given as goal

-- the bytes before the index have odd parity, and those from it on are as they were
abbrev pub invariant-loop-byte : goal.invariant-loop-byte
invariant-loop-byte l = l.key ≡ map odd (take l.byte-index l.initial.key) ++ drop l.byte-index l.initial.key
