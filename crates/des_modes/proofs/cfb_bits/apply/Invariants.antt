-- The bits before the index are done, and those from it on are as they were.
use Rattle.std.proofs.Common.{ℕ, false, List}
use Rattle.des.specs.Bits.{bits_of_bytes, xor}
use Rattle.des_modes.specs.Cfb.{cfb_bits}
use Rattle.des_modes.specs.States.{HoldsLastBits}
use Rattle.des_modes.specs.Streams.{GoesOn}
use Rattle.des_modes.proofs.Pieces.{InPlace}
use Rattle.des_modes.proofs.cfb_bits.apply.Given as goal

abbrev pub invariant-bits : goal.invariant-bits
invariant-bits g l = (iv : List ℕ) → InPlace (GoesOn xor false (HoldsLastBits iv)
    (cfb_bits 1 (g.C.BlockCipherEncrypt.encrypted l.cipher) iv) l.direction l.initial.register l.register) l.place
    (bits_of_bytes l.initial.bytes) (bits_of_bytes l.bytes)
