-- The key is that of the transaction, and the registers have the keys of those to come.
use Rattle.std.proofs.Common.{ℕ, List, [], ◌∙◌, arith}
use Rattle.std.proofs.lemmas.List.{get_or-set_other}
use Rattle.des_payment.proofs.FutureTaken.{taken, kept}
use Rattle.des_payment.proofs.terminal.take_key.Goals as goal

pub returns-then-counter-lt-MAX_ONES-clause-taken : goal.returns-then-counter-lt-MAX_ONES-clause-taken
returns-then-counter-lt-MAX_ONES-clause-taken c initial usable has =
    let place = c.lowest_one-place.ensures in
    taken c.args.last c.lowest_one-place.result place.inside place.one place.below initial c.args.keys.now usable has

pub returns-else-counter-lt-MAX_ONES-clause-taken : goal.returns-else-counter-lt-MAX_ONES-clause-taken
returns-else-counter-lt-MAX_ONES-clause-taken c initial usable has =
    let place = c.lowest_one-place.ensures in
    taken c.args.last c.lowest_one-place.result place.inside place.one place.below initial c.args.keys.now usable has

pub returns-then-counter-lt-MAX_ONES-clause-future : goal.returns-then-counter-lt-MAX_ONES-clause-future
returns-then-counter-lt-MAX_ONES-clause-future c initial usable has =
    let p : ℕ = c.lowest_one-place.result in
    let place = c.lowest_one-place.ensures in
    let keys : List (List ℕ) = c.args.keys.now in
    kept c.args.last p place.inside place.one place.below initial keys usable has c.write_below.new.keys _
    (taken c.args.last p place.inside place.one place.below initial keys usable has)
    (λ k below few. c.write_below.ensures.written k below)
    (λ k above. c.write_below.ensures.kept k (omega (arith, above))
    ∙ get_or-set_other keys p k _ [] (omega (arith, above)))

pub returns-else-counter-lt-MAX_ONES-clause-future : goal.returns-else-counter-lt-MAX_ONES-clause-future
returns-else-counter-lt-MAX_ONES-clause-future c initial usable has =
    let p : ℕ = c.lowest_one-place.result in
    let place = c.lowest_one-place.ensures in
    let keys : List (List ℕ) = c.args.keys.now in
    kept c.args.last p place.inside place.one place.below initial keys usable has _ _
    (taken c.args.last p place.inside place.one place.below initial keys usable has)
    (λ k below few. absurd (omega (arith, few, c.if-counter-lt-MAX_ONES.false)))
    (λ k above. get_or-set_other keys p k _ [] (omega (arith, above)))
