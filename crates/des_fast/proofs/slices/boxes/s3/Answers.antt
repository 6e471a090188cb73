-- The circuit of S3, and that it answers as the box.
use Rattle.std.proofs.Common.{[], ◌∷◌, refl, arith}
use Rattle.des.specs.Bits.{bits_of, number_of, select}
use Rattle.des.specs.Tables.{s3}
use Rattle.des.specs.CipherFunction.{box_entry}
use Rattle.des_fast.proofs.Circuits.{complement, and, and_not, or, xor, Circuit, done, ◌▸◌, made-entry}
use Rattle.des_fast.proofs.slices.boxes.s3.Goals as goal

-- its gates, in the order of the code
abbrev circuit : Circuit
circuit = record {
  gates =
      xor 4 3 ∷ xor 1 7 ∷ xor 8 5 ∷ or 8 7 ∷ and_not 10 5 ∷ or 6 4 ∷ and 12 1 ∷ xor 6 3 ∷ xor 13 14 ∷ xor 11 15 ∷
      xor 16 4 ∷ complement 17 ∷ and 17 1 ∷ and_not 19 14 ∷ xor 20 2 ∷ xor 21 10 ∷ and_not 22 3 ∷ xor 18 23 ∷
      and_not 24 2 ∷ xor 9 25 ∷ xor 22 14 ∷ or 27 18 ∷ and 6 28 ∷ xor 26 29 ∷ or 13 11 ∷ and 31 26 ∷ xor 31 22 ∷
      and_not 33 23 ∷ xor 34 4 ∷ and_not 35 5 ∷ xor 32 36 ∷ and 37 6 ∷ and 21 2 ∷ xor 39 16 ∷ and_not 40 30 ∷
      or 41 14 ∷ and_not 42 1 ∷ xor 38 43 ∷ xor 44 33 ∷ or 32 27 ∷ xor 2 1 ∷ and 46 47 ∷ xor 43 30 ∷
      and_not 44 10 ∷ xor 50 35 ∷ xor 51 11 ∷ and_not 4 52 ∷ xor 49 53 ∷ xor 48 54 ∷ [];
  outputs = 30 ∷ 45 ∷ 55 ∷ 40 ∷ [];
}

pub returns : goal.returns
unfolding bits_of number_of select box_entry
returns g c =
    made-entry _ g.S.Slice.bit s3 circuit c.args.group _ _ _ _ _ _ _ refl refl (omega arith) (
    c.xor-x7.ensures ▸ c.xor-x8.ensures ▸ c.xor-x9.ensures ▸ c.or-x10.ensures ▸ c.and_not-x11.ensures ▸
    c.or-x12.ensures ▸ c.and-x13.ensures ▸ c.xor-x14.ensures ▸ c.xor-x15.ensures ▸ c.xor-x16.ensures ▸
    c.xor-x17.ensures ▸ c.not-x18.ensures ▸ c.and-x19.ensures ▸ c.and_not-x20.ensures ▸ c.xor-x21.ensures ▸
    c.xor-x22.ensures ▸ c.and_not-x23.ensures ▸ c.xor-x24.ensures ▸ c.and_not-x25.ensures ▸ c.xor-x26.ensures ▸
    c.xor-x27.ensures ▸ c.or-x28.ensures ▸ c.and-x29.ensures ▸ c.xor-x30.ensures ▸ c.or-x31.ensures ▸
    c.and-x32.ensures ▸ c.xor-x33.ensures ▸ c.and_not-x34.ensures ▸ c.xor-x35.ensures ▸ c.and_not-x36.ensures ▸
    c.xor-x37.ensures ▸ c.and-x38.ensures ▸ c.and-x39.ensures ▸ c.xor-x40.ensures ▸ c.and_not-x41.ensures ▸
    c.or-x42.ensures ▸ c.and_not-x43.ensures ▸ c.xor-x44.ensures ▸ c.xor-x45.ensures ▸ c.or-x46.ensures ▸
    c.xor-x47.ensures ▸ c.and-x48.ensures ▸ c.xor-x49.ensures ▸ c.and_not-x50.ensures ▸ c.xor-x51.ensures ▸
    c.xor-x52.ensures ▸ c.and_not-x53.ensures ▸ c.xor-x54.ensures ▸ c.xor-x55.ensures ▸ done)
