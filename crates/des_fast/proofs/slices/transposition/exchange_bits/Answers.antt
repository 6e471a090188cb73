-- Exchanges of half bytes, pairs of bits and bits transpose the bits of each byte.
use Rattle.std.proofs.Common.{refl, arith}
use Rattle.des.specs.Bits.{bits_of}
use Rattle.des_fast.specs.Transposition.{bit_steps, bits_from}
use Rattle.des_fast.proofs.RowSteps.{IsFrom-steps}
use Rattle.des_fast.proofs.slices.transposition.exchange_bits.Goals as goal

pub exchange_pairs-rows-requires : goal.exchange_pairs-rows-requires
unfolding bits_of
exchange_pairs-rows-requires g c = (omega (arith, g.met.S.Slice.few_bytes), (omega arith, refl))

pub exchange_pairs-rows-requires-2 : goal.exchange_pairs-rows-requires-2
unfolding bits_of
exchange_pairs-rows-requires-2 g c = (omega (arith, g.met.S.Slice.few_bytes), (omega arith, refl))

pub exchange_pairs-requires : goal.exchange_pairs-requires
unfolding bits_of
exchange_pairs-requires g c = (omega (arith, g.met.S.Slice.few_bytes), (omega arith, refl))

pub returns : goal.returns
returns g c =
    IsFrom-steps g.S.Slice.BATCH g.S.Slice.place_bit bit_steps bits_from _ _ g.met.S.Slice.bits
    (_, (c.exchange_pairs.ensures, (_, (c.exchange_pairs-rows-2.ensures, (_, (c.exchange_pairs-rows.ensures, refl))))))
