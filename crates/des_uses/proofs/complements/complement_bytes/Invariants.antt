use Rattle.std.proofs.Common.{◌≡◌, ◌++◌, take, drop}
use Rattle.des.specs.Complement.{complement}
use Rattle.des_uses.proofs.complements.complement_bytes.Given as goal

-- the bytes before the index are complemented, and those from it on are as they were
abbrev pub invariant-loop-byte : goal.invariant-loop-byte
invariant-loop-byte l = l.bytes ≡ complement (take l.byte-index l.initial.bytes) ++ drop l.byte-index l.initial.bytes
