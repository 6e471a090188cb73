-- The circuit of S8, and that it answers as the box.
use Rattle.std.proofs.Common.{[], ◌∷◌, refl, arith}
use Rattle.des.specs.Bits.{bits_of, number_of, select}
use Rattle.des.specs.Tables.{s8}
use Rattle.des.specs.CipherFunction.{box_entry}
use Rattle.des_fast.proofs.Circuits.{complement, and, and_not, or, xor, Circuit, done, ◌▸◌, made-entry}
use Rattle.des_fast.proofs.slices.boxes.s8.Goals as goal

-- its gates, in the order of the code
abbrev circuit : Circuit
circuit = record {
  gates =
      or 3 2 ∷ xor 1 3 ∷ xor 7 5 ∷ and_not 8 9 ∷ or 4 1 ∷ xor 10 11 ∷ or 12 5 ∷ and 13 2 ∷ xor 10 4 ∷ xor 14 15 ∷
      or 16 5 ∷ and 17 4 ∷ and_not 7 18 ∷ xor 15 13 ∷ and_not 2 4 ∷ xor 8 9 ∷ and 22 6 ∷ and 21 23 ∷ or 20 24 ∷
      and 25 23 ∷ xor 26 6 ∷ and_not 1 27 ∷ xor 28 2 ∷ xor 29 8 ∷ xor 25 30 ∷ or 31 4 ∷ and 28 32 ∷ or 33 16 ∷
      xor 34 22 ∷ xor 35 31 ∷ xor 19 36 ∷ or 37 26 ∷ xor 38 24 ∷ xor 6 39 ∷ complement 6 ∷ or 40 41 ∷ xor 42 8 ∷
      xor 43 17 ∷ xor 44 21 ∷ xor 45 40 ∷ xor 35 41 ∷ [];
  outputs = 46 ∷ 47 ∷ 31 ∷ 45 ∷ [];
}

pub returns : goal.returns
unfolding bits_of number_of select box_entry
returns g c =
    made-entry _ g.S.Slice.bit s8 circuit c.args.group _ _ _ _ _ _ _ refl refl (omega arith) (
    c.or-x7.ensures ▸ c.xor-x8.ensures ▸ c.xor-x9.ensures ▸ c.and_not-x10.ensures ▸ c.or-x11.ensures ▸
    c.xor-x12.ensures ▸ c.or-x13.ensures ▸ c.and-x14.ensures ▸ c.xor-x15.ensures ▸ c.xor-x16.ensures ▸
    c.or-x17.ensures ▸ c.and-x18.ensures ▸ c.and_not-x19.ensures ▸ c.xor-x20.ensures ▸ c.and_not-x21.ensures ▸
    c.xor-x22.ensures ▸ c.and-x23.ensures ▸ c.and-x24.ensures ▸ c.or-x25.ensures ▸ c.and-x26.ensures ▸
    c.xor-x27.ensures ▸ c.and_not-x28.ensures ▸ c.xor-x29.ensures ▸ c.xor-x30.ensures ▸ c.xor-x31.ensures ▸
    c.or-x32.ensures ▸ c.and-x33.ensures ▸ c.or-x34.ensures ▸ c.xor-x35.ensures ▸ c.xor-x36.ensures ▸
    c.xor-x37.ensures ▸ c.or-x38.ensures ▸ c.xor-x39.ensures ▸ c.xor-x40.ensures ▸ c.not-x41.ensures ▸
    c.or-x42.ensures ▸ c.xor-x43.ensures ▸ c.xor-x44.ensures ▸ c.xor-x45.ensures ▸ c.xor-x46.ensures ▸
    c.xor-x47.ensures ▸ done)
