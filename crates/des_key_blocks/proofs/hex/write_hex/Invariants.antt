use Rattle.std.proofs.Common.{◌≡◌, ◌*◌, take}
use Rattle.des_key_blocks.specs.Hex.{hex_of}
use Rattle.des_key_blocks.proofs.hex.write_hex.Given as goal

-- the digits of the bytes so far
abbrev pub invariant-loop-i : goal.invariant-loop-i
invariant-loop-i l = hex_of (take l.i l.bytes) ≡ take (2 * l.i) l.text
