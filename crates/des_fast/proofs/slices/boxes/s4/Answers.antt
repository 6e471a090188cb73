-- The circuit of S4, and that it answers as the box.
use Rattle.std.proofs.Common.{[], ◌∷◌, refl, arith}
use Rattle.des.specs.Bits.{bits_of, number_of, select}
use Rattle.des.specs.Tables.{s4}
use Rattle.des.specs.CipherFunction.{box_entry}
use Rattle.des_fast.proofs.Circuits.{complement, and, and_not, or, xor, Circuit, done, ◌▸◌, made-entry}
use Rattle.des_fast.proofs.slices.boxes.s4.Goals as goal

-- its gates, in the order of the code
abbrev circuit : Circuit
circuit = record {
  gates =
      and_not 5 4 ∷ xor 7 3 ∷ xor 8 4 ∷ and 2 8 ∷ xor 10 9 ∷ complement 11 ∷ xor 12 5 ∷ xor 13 2 ∷ or 9 14 ∷
      xor 15 3 ∷ and 16 1 ∷ or 16 1 ∷ xor 18 14 ∷ xor 17 13 ∷ or 19 20 ∷ xor 21 7 ∷ and 17 22 ∷ or 14 10 ∷
      xor 6 24 ∷ xor 25 5 ∷ xor 23 26 ∷ and 27 6 ∷ and 22 5 ∷ xor 29 20 ∷ and_not 30 2 ∷ xor 19 31 ∷ xor 28 32 ∷
      xor 27 33 ∷ or 29 1 ∷ and_not 12 35 ∷ xor 25 4 ∷ xor 36 37 ∷ and_not 6 38 ∷ xor 39 20 ∷ xor 40 38 ∷ [];
  outputs = 34 ∷ 33 ∷ 41 ∷ 40 ∷ [];
}

pub returns : goal.returns
unfolding bits_of number_of select box_entry
returns g c =
    made-entry _ g.S.Slice.bit s4 circuit c.args.group _ _ _ _ _ _ _ refl refl (omega arith) (
    c.and_not-x7.ensures ▸ c.xor-x8.ensures ▸ c.xor-x9.ensures ▸ c.and-x10.ensures ▸ c.xor-x11.ensures ▸
    c.not-x12.ensures ▸ c.xor-x13.ensures ▸ c.xor-x14.ensures ▸ c.or-x15.ensures ▸ c.xor-x16.ensures ▸
    c.and-x17.ensures ▸ c.or-x18.ensures ▸ c.xor-x19.ensures ▸ c.xor-x20.ensures ▸ c.or-x21.ensures ▸
    c.xor-x22.ensures ▸ c.and-x23.ensures ▸ c.or-x24.ensures ▸ c.xor-x25.ensures ▸ c.xor-x26.ensures ▸
    c.xor-x27.ensures ▸ c.and-x28.ensures ▸ c.and-x29.ensures ▸ c.xor-x30.ensures ▸ c.and_not-x31.ensures ▸
    c.xor-x32.ensures ▸ c.xor-x33.ensures ▸ c.xor-x34.ensures ▸ c.or-x35.ensures ▸ c.and_not-x36.ensures ▸
    c.xor-x37.ensures ▸ c.xor-x38.ensures ▸ c.and_not-x39.ensures ▸ c.xor-x40.ensures ▸ c.xor-x41.ensures ▸ done)
