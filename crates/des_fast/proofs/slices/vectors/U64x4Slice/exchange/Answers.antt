use Rattle.std.proofs.lemmas.Simd.{shifts_fit_splat}
use Rattle.des_fast.proofs.ExchangedRows.{ArePairwise-exchanged}
use Rattle.des_fast.proofs.slices.vectors.U64x4Slice.exchange.Goals as goal

pub overflow_shr-change : goal.overflow_shr-change
overflow_shr-change c = shifts_fit_splat 64 _ 4 _ c.requires.within

pub overflow_shl-result : goal.overflow_shl-result
overflow_shl-result c = shifts_fit_splat 64 _ 4 _ c.requires.within

pub returns : goal.returns
returns c =
    let a = c.args in
    ArePairwise-exchanged 4 a.distance a.mask a.self a.lower c.requires.within c.requires.pairs c.fits-self.0
    c.fits-lower.0
