-- The bytes before the index are done, and those from it on are as they were.
use Rattle.std.proofs.Common.{◌-◌, ◌<◌, ◌≤◌, ℕ, List, length, bit_xor}
use Rattle.des_modes.specs.States.{IsPlace, size_of}
use Rattle.des_modes.specs.Streams.{GoesOn}
use Rattle.des_modes.proofs.Pieces.{InPlace}
use Rattle.des_modes.proofs.parts.apply_parts.Given as goal

abbrev pub invariant-parts : goal.invariant-parts
invariant-parts g l = record {
  within : l.from ≤ length l.bytes;
  fits : l.place.used < size_of (g.P.TakesParts.mode l.mode);
  so_far : (iv : List ℕ) → InPlace (GoesOn bit_xor 0
      (IsPlace (g.P.TakesParts.mode l.mode) (g.C.BlockCipherEncrypt.encrypted l.cipher) iv)
      (g.P.TakesParts.key_stream l.mode (g.C.BlockCipherEncrypt.encrypted l.cipher) iv) l.direction l.initial.place l.place)
      l.from l.initial.bytes l.bytes;
}

abbrev pub decreases-parts : goal.decreases-parts
decreases-parts g l = length l.initial.bytes - l.from
