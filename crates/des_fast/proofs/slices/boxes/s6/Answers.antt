-- The circuit of S6, and that it answers as the box.
use Rattle.std.proofs.Common.{[], ◌∷◌, refl, arith}
use Rattle.des.specs.Bits.{bits_of, number_of, select}
use Rattle.des.specs.Tables.{s6}
use Rattle.des.specs.CipherFunction.{box_entry}
use Rattle.des_fast.proofs.Circuits.{complement, and, and_not, or, xor, Circuit, done, ◌▸◌, made-entry}
use Rattle.des_fast.proofs.slices.boxes.s6.Goals as goal

-- its gates, in the order of the code
abbrev circuit : Circuit
circuit = record {
  gates =
      complement 3 ∷ and 7 1 ∷ or 8 5 ∷ or 7 1 ∷ and 9 10 ∷ xor 11 2 ∷ or 12 3 ∷ xor 13 1 ∷ xor 5 14 ∷ xor 6 4 ∷
      xor 15 16 ∷ and_not 15 4 ∷ xor 18 12 ∷ and_not 19 5 ∷ and_not 20 16 ∷ and_not 13 21 ∷ xor 22 16 ∷ and 23 14 ∷
      xor 24 1 ∷ and 25 6 ∷ xor 26 19 ∷ xor 26 23 ∷ and_not 27 28 ∷ xor 20 29 ∷ or 6 5 ∷ and_not 4 1 ∷ and 31 32 ∷
      xor 33 7 ∷ and_not 34 16 ∷ xor 30 35 ∷ and 36 33 ∷ or 17 37 ∷ and_not 36 5 ∷ xor 38 39 ∷ and_not 38 1 ∷
      or 40 28 ∷ and_not 42 6 ∷ xor 43 12 ∷ and_not 44 32 ∷ xor 45 33 ∷ and 26 9 ∷ xor 47 3 ∷ xor 48 17 ∷
      xor 46 49 ∷ xor 41 50 ∷ and_not 9 30 ∷ and_not 2 52 ∷ xor 53 49 ∷ [];
  outputs = 40 ∷ 51 ∷ 54 ∷ 27 ∷ [];
}

pub returns : goal.returns
unfolding bits_of number_of select box_entry
returns g c =
    made-entry _ g.S.Slice.bit s6 circuit c.args.group _ _ _ _ _ _ _ refl refl (omega arith) (
    c.not-x7.ensures ▸ c.and-x8.ensures ▸ c.or-x9.ensures ▸ c.or-x10.ensures ▸ c.and-x11.ensures ▸
    c.xor-x12.ensures ▸ c.or-x13.ensures ▸ c.xor-x14.ensures ▸ c.xor-x15.ensures ▸ c.xor-x16.ensures ▸
    c.xor-x17.ensures ▸ c.and_not-x18.ensures ▸ c.xor-x19.ensures ▸ c.and_not-x20.ensures ▸ c.and_not-x21.ensures ▸
    c.and_not-x22.ensures ▸ c.xor-x23.ensures ▸ c.and-x24.ensures ▸ c.xor-x25.ensures ▸ c.and-x26.ensures ▸
    c.xor-x27.ensures ▸ c.xor-x28.ensures ▸ c.and_not-x29.ensures ▸ c.xor-x30.ensures ▸ c.or-x31.ensures ▸
    c.and_not-x32.ensures ▸ c.and-x33.ensures ▸ c.xor-x34.ensures ▸ c.and_not-x35.ensures ▸ c.xor-x36.ensures ▸
    c.and-x37.ensures ▸ c.or-x38.ensures ▸ c.and_not-x39.ensures ▸ c.xor-x40.ensures ▸ c.and_not-x41.ensures ▸
    c.or-x42.ensures ▸ c.and_not-x43.ensures ▸ c.xor-x44.ensures ▸ c.and_not-x45.ensures ▸ c.xor-x46.ensures ▸
    c.and-x47.ensures ▸ c.xor-x48.ensures ▸ c.xor-x49.ensures ▸ c.xor-x50.ensures ▸ c.xor-x51.ensures ▸
    c.and_not-x52.ensures ▸ c.and_not-x53.ensures ▸ c.xor-x54.ensures ▸ done)
