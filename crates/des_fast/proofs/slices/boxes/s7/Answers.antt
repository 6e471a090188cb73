-- The circuit of S7, and that it answers as the box.
use Rattle.std.proofs.Common.{[], ◌∷◌, refl, arith}
use Rattle.des.specs.Bits.{bits_of, number_of, select}
use Rattle.des.specs.Tables.{s7}
use Rattle.des.specs.CipherFunction.{box_entry}
use Rattle.des_fast.proofs.Circuits.{complement, and, and_not, or, xor, Circuit, done, ◌▸◌, made-entry}
use Rattle.des_fast.proofs.slices.boxes.s7.Goals as goal

-- its gates, in the order of the code
abbrev circuit : Circuit
circuit = record {
  gates =
      complement 3 ∷ or 3 2 ∷ xor 8 5 ∷ xor 9 2 ∷ and_not 4 10 ∷ xor 9 1 ∷ or 10 3 ∷ and 13 4 ∷ xor 12 14 ∷
      xor 15 10 ∷ xor 16 7 ∷ xor 11 17 ∷ and_not 18 1 ∷ and 9 4 ∷ xor 20 16 ∷ and_not 2 17 ∷ or 21 22 ∷ and 23 6 ∷
      xor 19 24 ∷ and 22 1 ∷ xor 26 6 ∷ xor 11 27 ∷ and_not 9 28 ∷ and_not 6 29 ∷ and 25 30 ∷ xor 31 29 ∷
      xor 18 32 ∷ xor 33 13 ∷ or 34 12 ∷ and_not 35 30 ∷ xor 36 25 ∷ and_not 7 37 ∷ xor 38 33 ∷ xor 21 12 ∷
      xor 40 25 ∷ xor 21 9 ∷ xor 42 27 ∷ or 34 22 ∷ and 43 44 ∷ and_not 27 4 ∷ xor 45 46 ∷ xor 47 37 ∷ and 1 48 ∷
      and 41 49 ∷ and_not 30 50 ∷ and 51 3 ∷ and 39 52 ∷ xor 53 49 ∷ xor 54 43 ∷ xor 51 15 ∷ [];
  outputs = 55 ∷ 41 ∷ 39 ∷ 56 ∷ [];
}

pub returns : goal.returns
unfolding bits_of number_of select box_entry
returns g c =
    made-entry _ g.S.Slice.bit s7 circuit c.args.group _ _ _ _ _ _ _ refl refl (omega arith) (
    c.not-x7.ensures ▸ c.or-x8.ensures ▸ c.xor-x9.ensures ▸ c.xor-x10.ensures ▸ c.and_not-x11.ensures ▸
    c.xor-x12.ensures ▸ c.or-x13.ensures ▸ c.and-x14.ensures ▸ c.xor-x15.ensures ▸ c.xor-x16.ensures ▸
    c.xor-x17.ensures ▸ c.xor-x18.ensures ▸ c.and_not-x19.ensures ▸ c.and-x20.ensures ▸ c.xor-x21.ensures ▸
    c.and_not-x22.ensures ▸ c.or-x23.ensures ▸ c.and-x24.ensures ▸ c.xor-x25.ensures ▸ c.and-x26.ensures ▸
    c.xor-x27.ensures ▸ c.xor-x28.ensures ▸ c.and_not-x29.ensures ▸ c.and_not-x30.ensures ▸ c.and-x31.ensures ▸
    c.xor-x32.ensures ▸ c.xor-x33.ensures ▸ c.xor-x34.ensures ▸ c.or-x35.ensures ▸ c.and_not-x36.ensures ▸
    c.xor-x37.ensures ▸ c.and_not-x38.ensures ▸ c.xor-x39.ensures ▸ c.xor-x40.ensures ▸ c.xor-x41.ensures ▸
    c.xor-x42.ensures ▸ c.xor-x43.ensures ▸ c.or-x44.ensures ▸ c.and-x45.ensures ▸ c.and_not-x46.ensures ▸
    c.xor-x47.ensures ▸ c.xor-x48.ensures ▸ c.and-x49.ensures ▸ c.and-x50.ensures ▸ c.and_not-x51.ensures ▸
    c.and-x52.ensures ▸ c.and-x53.ensures ▸ c.xor-x54.ensures ▸ c.xor-x55.ensures ▸ c.xor-x56.ensures ▸ done)
