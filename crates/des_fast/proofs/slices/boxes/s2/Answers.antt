-- The circuit of S2, and that it answers as the box.
use Rattle.std.proofs.Common.{[], ◌∷◌, refl, arith}
use Rattle.des.specs.Bits.{bits_of, number_of, select}
use Rattle.des.specs.Tables.{s2}
use Rattle.des.specs.CipherFunction.{box_entry}
use Rattle.des_fast.proofs.Circuits.{complement, and, and_not, or, xor, Circuit, done, ◌▸◌, made-entry}
use Rattle.des_fast.proofs.slices.boxes.s2.Goals as goal

-- its gates, in the order of the code
abbrev circuit : Circuit
circuit = record {
  gates =
      xor 5 6 ∷ xor 7 1 ∷ and_not 7 8 ∷ and_not 5 9 ∷ and 10 1 ∷ or 11 4 ∷ and 10 4 ∷ or 6 3 ∷ xor 13 14 ∷
      and_not 15 1 ∷ xor 12 16 ∷ complement 2 ∷ and_not 17 18 ∷ xor 11 8 ∷ xor 3 20 ∷ complement 21 ∷ or 22 11 ∷
      xor 23 13 ∷ xor 19 24 ∷ or 6 1 ∷ xor 15 2 ∷ or 6 13 ∷ and_not 20 18 ∷ xor 12 23 ∷ or 25 9 ∷ and 31 26 ∷
      xor 32 7 ∷ xor 30 33 ∷ or 29 34 ∷ or 28 35 ∷ xor 27 36 ∷ and_not 27 3 ∷ or 35 2 ∷ and_not 31 5 ∷ xor 40 22 ∷
      xor 39 41 ∷ or 42 21 ∷ xor 38 43 ∷ and_not 44 4 ∷ xor 37 45 ∷ xor 26 46 ∷ or 24 19 ∷ and 47 48 ∷ or 18 49 ∷
      and_not 6 38 ∷ and_not 50 51 ∷ xor 8 4 ∷ xor 52 53 ∷ or 54 3 ∷ xor 47 55 ∷ [];
  outputs = 25 ∷ 54 ∷ 56 ∷ 42 ∷ [];
}

pub returns : goal.returns
unfolding bits_of number_of select box_entry
returns g c =
    made-entry _ g.S.Slice.bit s2 circuit c.args.group _ _ _ _ _ _ _ refl refl (omega arith) (
    c.xor-x7.ensures ▸ c.xor-x8.ensures ▸ c.and_not-x9.ensures ▸ c.and_not-x10.ensures ▸ c.and-x11.ensures ▸
    c.or-x12.ensures ▸ c.and-x13.ensures ▸ c.or-x14.ensures ▸ c.xor-x15.ensures ▸ c.and_not-x16.ensures ▸
    c.xor-x17.ensures ▸ c.not-x18.ensures ▸ c.and_not-x19.ensures ▸ c.xor-x20.ensures ▸ c.xor-x21.ensures ▸
    c.not-x22.ensures ▸ c.or-x23.ensures ▸ c.xor-x24.ensures ▸ c.xor-x25.ensures ▸ c.or-x26.ensures ▸
    c.xor-x27.ensures ▸ c.or-x28.ensures ▸ c.and_not-x29.ensures ▸ c.xor-x30.ensures ▸ c.or-x31.ensures ▸
    c.and-x32.ensures ▸ c.xor-x33.ensures ▸ c.xor-x34.ensures ▸ c.or-x35.ensures ▸ c.or-x36.ensures ▸
    c.xor-x37.ensures ▸ c.and_not-x38.ensures ▸ c.or-x39.ensures ▸ c.and_not-x40.ensures ▸ c.xor-x41.ensures ▸
    c.xor-x42.ensures ▸ c.or-x43.ensures ▸ c.xor-x44.ensures ▸ c.and_not-x45.ensures ▸ c.xor-x46.ensures ▸
    c.xor-x47.ensures ▸ c.or-x48.ensures ▸ c.and-x49.ensures ▸ c.or-x50.ensures ▸ c.and_not-x51.ensures ▸
    c.and_not-x52.ensures ▸ c.xor-x53.ensures ▸ c.xor-x54.ensures ▸ c.or-x55.ensures ▸ c.xor-x56.ensures ▸ done)
