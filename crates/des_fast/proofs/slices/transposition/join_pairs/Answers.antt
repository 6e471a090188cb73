-- Four pairs of rows.
use Rattle.std.proofs.Common.{◌/◌, arith}
use Rattle.des_fast.specs.Transposition.{joined}
use Rattle.des_fast.proofs.EightRows.{ArePairwise-pairs}
use Rattle.des_fast.proofs.ExchangedRows.{mod-lt_two}
use Rattle.des_fast.proofs.slices.transposition.join_pairs.Goals as goal

pub returns : goal.returns
returns g c =
    ArePairwise-pairs g.S.Slice.BATCH g.S.Slice.place_bit joined c.args.rows
    c.join_words.result c.join_words-2.result c.join_words-3.result c.join_words-4.result _ _ _ _ _ _ _ _ _ _ _ _ _ _ _ _
    (λ t b. mod-lt_two (b / 64)) (omega arith) (omega arith) (omega arith) (omega arith) (omega arith)
    c.join_words.ensures c.join_words-2.ensures c.join_words-3.ensures c.join_words-4.ensures
