-- The circuit of S1, and that it answers as the box.
use Rattle.std.proofs.Common.{[], ◌∷◌, refl, arith}
use Rattle.des.specs.Bits.{bits_of, number_of, select}
use Rattle.des.specs.Tables.{s1}
use Rattle.des.specs.CipherFunction.{box_entry}
use Rattle.des_fast.proofs.Circuits.{complement, and, and_not, or, xor, Circuit, done, ◌▸◌, made-entry}
use Rattle.des_fast.proofs.slices.boxes.s1.Goals as goal

-- its gates, in the order of the code
abbrev circuit : Circuit
circuit = record {
  gates =
      complement 3 ∷ xor 4 1 ∷ and 8 6 ∷ xor 9 7 ∷ xor 10 8 ∷ xor 11 9 ∷ or 10 1 ∷ and 5 13 ∷ or 12 14 ∷ xor 15 6 ∷
      and 16 1 ∷ xor 17 8 ∷ xor 9 5 ∷ and_not 18 19 ∷ and_not 7 20 ∷ xor 15 7 ∷ or 21 22 ∷ and 23 2 ∷ or 20 6 ∷
      xor 25 5 ∷ xor 26 21 ∷ xor 20 12 ∷ or 28 9 ∷ and 29 1 ∷ xor 27 30 ∷ xor 24 31 ∷ and_not 5 2 ∷ or 25 3 ∷
      and 14 12 ∷ xor 34 35 ∷ and_not 36 2 ∷ xor 28 37 ∷ and_not 38 33 ∷ and_not 39 7 ∷ xor 37 23 ∷ and_not 41 35 ∷
      xor 40 42 ∷ and_not 43 6 ∷ and 11 4 ∷ xor 45 24 ∷ xor 46 41 ∷ and_not 47 2 ∷ and_not 26 31 ∷ xor 48 49 ∷
      xor 50 36 ∷ xor 44 51 ∷ and_not 33 52 ∷ and_not 47 40 ∷ xor 54 36 ∷ and_not 55 6 ∷ xor 56 19 ∷ xor 57 40 ∷
      xor 53 58 ∷ [];
  outputs = 32 ∷ 59 ∷ 38 ∷ 52 ∷ [];
}

pub returns : goal.returns
unfolding bits_of number_of select box_entry
returns g c =
    made-entry _ g.S.Slice.bit s1 circuit c.args.group _ _ _ _ _ _ _ refl refl (omega arith) (
    c.not-x7.ensures ▸ c.xor-x8.ensures ▸ c.and-x9.ensures ▸ c.xor-x10.ensures ▸ c.xor-x11.ensures ▸
    c.xor-x12.ensures ▸ c.or-x13.ensures ▸ c.and-x14.ensures ▸ c.or-x15.ensures ▸ c.xor-x16.ensures ▸
    c.and-x17.ensures ▸ c.xor-x18.ensures ▸ c.xor-x19.ensures ▸ c.and_not-x20.ensures ▸ c.and_not-x21.ensures ▸
    c.xor-x22.ensures ▸ c.or-x23.ensures ▸ c.and-x24.ensures ▸ c.or-x25.ensures ▸ c.xor-x26.ensures ▸
    c.xor-x27.ensures ▸ c.xor-x28.ensures ▸ c.or-x29.ensures ▸ c.and-x30.ensures ▸ c.xor-x31.ensures ▸
    c.xor-x32.ensures ▸ c.and_not-x33.ensures ▸ c.or-x34.ensures ▸ c.and-x35.ensures ▸ c.xor-x36.ensures ▸
    c.and_not-x37.ensures ▸ c.xor-x38.ensures ▸ c.and_not-x39.ensures ▸ c.and_not-x40.ensures ▸ c.xor-x41.ensures ▸
    c.and_not-x42.ensures ▸ c.xor-x43.ensures ▸ c.and_not-x44.ensures ▸ c.and-x45.ensures ▸ c.xor-x46.ensures ▸
    c.xor-x47.ensures ▸ c.and_not-x48.ensures ▸ c.and_not-x49.ensures ▸ c.xor-x50.ensures ▸ c.xor-x51.ensures ▸
    c.xor-x52.ensures ▸ c.and_not-x53.ensures ▸ c.and_not-x54.ensures ▸ c.xor-x55.ensures ▸ c.and_not-x56.ensures ▸
    c.xor-x57.ensures ▸ c.xor-x58.ensures ▸ c.xor-x59.ensures ▸ done)
