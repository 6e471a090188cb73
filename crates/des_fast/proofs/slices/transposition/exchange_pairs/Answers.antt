-- Four pairs of rows.
use Rattle.std.proofs.Common.{◌/◌, ◌%◌, arith}
use Rattle.des_fast.specs.Transposition.{exchanged}
use Rattle.des_fast.proofs.EightRows.{ArePairwise-pairs}
use Rattle.des_fast.proofs.ExchangedRows.{mod-lt_two}
use Rattle.des_fast.proofs.slices.transposition.exchange_pairs.Goals as goal

pub returns : goal.returns
returns g c =
    ArePairwise-pairs g.S.Slice.BATCH g.S.Slice.place_bit (exchanged c.args.distance) c.args.rows
    c.exchange.result c.exchange-2.result c.exchange-3.result c.exchange-4.result _ _ _ _ _ _ _ _ _ _ _ _ _ _ _ _
    (λ t b. mod-lt_two (b % 64 / c.args.distance)) (omega arith) (omega arith) (omega arith) (omega arith) (omega arith)
    c.exchange.ensures c.exchange-2.ensures c.exchange-3.ensures c.exchange-4.ensures
