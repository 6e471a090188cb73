-- The circuit of S5, and that it answers as the box.
use Rattle.std.proofs.Common.{[], ◌∷◌, refl, arith}
use Rattle.des.specs.Bits.{bits_of, number_of, select}
use Rattle.des.specs.Tables.{s5}
use Rattle.des.specs.CipherFunction.{box_entry}
use Rattle.des_fast.proofs.Circuits.{complement, and, and_not, or, xor, Circuit, done, ◌▸◌, made-entry}
use Rattle.des_fast.proofs.slices.boxes.s5.Goals as goal

-- its gates, in the order of the code
abbrev circuit : Circuit
circuit = record {
  gates =
      xor 3 1 ∷ or 7 3 ∷ and_not 8 6 ∷ xor 7 9 ∷ or 10 1 ∷ or 9 4 ∷ xor 12 5 ∷ xor 13 3 ∷ xor 14 4 ∷ or 15 5 ∷
      xor 16 14 ∷ xor 11 17 ∷ complement 1 ∷ xor 5 19 ∷ and_not 20 14 ∷ and_not 13 6 ∷ or 21 22 ∷ and_not 19 23 ∷
      xor 24 16 ∷ xor 25 19 ∷ and_not 26 2 ∷ xor 18 27 ∷ xor 26 13 ∷ xor 29 4 ∷ and_not 25 30 ∷ xor 31 12 ∷
      and 8 32 ∷ xor 6 33 ∷ xor 34 16 ∷ and 35 12 ∷ and_not 36 29 ∷ xor 20 2 ∷ or 10 4 ∷ and_not 39 2 ∷ xor 40 35 ∷
      and_not 17 41 ∷ and_not 1 42 ∷ and_not 32 31 ∷ xor 44 15 ∷ and 35 34 ∷ xor 45 46 ∷ and 47 2 ∷ xor 13 48 ∷
      xor 22 49 ∷ xor 43 50 ∷ xor 36 51 ∷ and 38 52 ∷ or 37 53 ∷ xor 54 20 ∷ xor 55 41 ∷ xor 28 56 ∷ [];
  outputs = 57 ∷ 41 ∷ 28 ∷ 52 ∷ [];
}

pub returns : goal.returns
unfolding bits_of number_of select box_entry
returns g c =
    made-entry _ g.S.Slice.bit s5 circuit c.args.group _ _ _ _ _ _ _ refl refl (omega arith) (
    c.xor-x7.ensures ▸ c.or-x8.ensures ▸ c.and_not-x9.ensures ▸ c.xor-x10.ensures ▸ c.or-x11.ensures ▸
    c.or-x12.ensures ▸ c.xor-x13.ensures ▸ c.xor-x14.ensures ▸ c.xor-x15.ensures ▸ c.or-x16.ensures ▸
    c.xor-x17.ensures ▸ c.xor-x18.ensures ▸ c.not-x19.ensures ▸ c.xor-x20.ensures ▸ c.and_not-x21.ensures ▸
    c.and_not-x22.ensures ▸ c.or-x23.ensures ▸ c.and_not-x24.ensures ▸ c.xor-x25.ensures ▸ c.xor-x26.ensures ▸
    c.and_not-x27.ensures ▸ c.xor-x28.ensures ▸ c.xor-x29.ensures ▸ c.xor-x30.ensures ▸ c.and_not-x31.ensures ▸
    c.xor-x32.ensures ▸ c.and-x33.ensures ▸ c.xor-x34.ensures ▸ c.xor-x35.ensures ▸ c.and-x36.ensures ▸
    c.and_not-x37.ensures ▸ c.xor-x38.ensures ▸ c.or-x39.ensures ▸ c.and_not-x40.ensures ▸ c.xor-x41.ensures ▸
    c.and_not-x42.ensures ▸ c.and_not-x43.ensures ▸ c.and_not-x44.ensures ▸ c.xor-x45.ensures ▸ c.and-x46.ensures ▸
    c.xor-x47.ensures ▸ c.and-x48.ensures ▸ c.xor-x49.ensures ▸ c.xor-x50.ensures ▸ c.xor-x51.ensures ▸
    c.xor-x52.ensures ▸ c.and-x53.ensures ▸ c.or-x54.ensures ▸ c.xor-x55.ensures ▸ c.xor-x56.ensures ▸
    c.xor-x57.ensures ▸ done)
