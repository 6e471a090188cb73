use Rattle.std.proofs.Common.{◌++◌, refl, ap₂, ◌∙◌, arith}
use Rattle.des_payment.specs.Dukpt.{initial_key}
use Rattle.des.specs.TripleCiphers.{ede2_encryption}
use Rattle.des_fast.proofs.AnsweredBatches.{answered-at}
use Rattle.des_payment.proofs.transaction_lists.initial_group.Goals as goal

-- each key is of its two halves
pub returns : goal.returns
returns g c =
    answered-at (initial_key c.args.base.now) c.args.serials.now c.join_halves.new.keys (omega arith)
    (λ k below.
    c.join_halves.ensures k (omega (arith, c.requires.same))
    ∙ ap₂ ◌++◌ (c.initial_halves-left.ensures k below)
    (c.initial_halves-right.ensures k below
    ∙ ap₂ ede2_encryption c.masked.ensures refl))
