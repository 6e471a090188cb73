-- Three steps of bytes and one of words transpose the bytes.
use Rattle.std.proofs.Common.{refl}
use Rattle.des_fast.specs.Transposition.{byte_steps, bytes_from}
use Rattle.des_fast.proofs.RowSteps.{IsFrom-steps}
use Rattle.des_fast.proofs.slices.transposition.exchange_bytes.Goals as goal

pub returns : goal.returns
returns g c =
    IsFrom-steps g.S.Slice.BATCH g.S.Slice.place_bit byte_steps bytes_from _ _ g.met.S.Slice.bytes (
      _,
      (
        c.join_pairs.ensures,
        (
          _,
          (
            c.interleave_pairs-3.ensures,
            (
              _,
              (
                c.interleave_pairs-2.ensures,
                (_, (c.interleave_pairs.ensures, refl)),
              ),
            ),
          ),
        ),
      ),
    )
