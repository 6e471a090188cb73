-- Four pairs of rows.
use Rattle.std.proofs.Common.{◌/◌, arith}
use Rattle.des_fast.specs.Transposition.{interleaved}
use Rattle.des_fast.proofs.EightRows.{ArePairwise-pairs}
use Rattle.des_fast.proofs.ExchangedRows.{mod-lt_two}
use Rattle.des_fast.proofs.slices.transposition.interleave_pairs.Goals as goal

pub returns : goal.returns
returns g c =
    ArePairwise-pairs g.S.Slice.BATCH g.S.Slice.place_bit interleaved c.args.rows
    c.interleave_bytes.result c.interleave_bytes-2.result c.interleave_bytes-3.result c.interleave_bytes-4.result _ _ _ _ _ _ _ _ _ _ _ _ _ _ _ _
    (λ t b. mod-lt_two (b / 8)) (omega arith) (omega arith) (omega arith) (omega arith) (omega arith)
    c.interleave_bytes.ensures c.interleave_bytes-2.ensures c.interleave_bytes-3.ensures c.interleave_bytes-4.ensures
