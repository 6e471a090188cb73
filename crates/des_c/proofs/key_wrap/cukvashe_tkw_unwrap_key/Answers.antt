use Rattle.std.proofs.Common.{◌≡◌, ◌/◌, ◌-◌, ◌∙◌, length, drop, refl, rules, sym, take_at, true≢false}
use Rattle.des_key_wraps.proofs.TkwSteps.{TkwUnder-graph, TkwUnder-from_graph}
use Rattle.des_c.specs.KeyWraps.{semiblocks_of}
use Rattle.des_c.proofs.key_wrap.cukvashe_tkw_unwrap_key.Goals as goal

pub returns-in-Ok-clause-unwrapped : goal.returns-in-Ok-clause-unwrapped
returns-in-Ok-clause-unwrapped c = λ done.
    let count = length c.args.wrapped.now / 4 - 1 in
    let long : length c.unwrap.new.key ≡ count = search rules in
    rw (take_at c.unwrap.new.key (drop count c.args.key.now) count long)
    (TkwUnder-graph c.cipher_of.ensures c.unwrap.new.key (semiblocks_of c.args.wrapped.now)
    (rw c.as_chunks.ensures.front at c.in-Ok.ensures.unwrapped))

pub returns-in-Ok-clause-accepted : goal.returns-in-Ok-clause-accepted
returns-in-Ok-clause-accepted c = λ done other are under.
    let count = length c.args.wrapped.now / 4 - 1 in
    let long : length c.unwrap.new.key ≡ count = search rules in
    let found = c.in-Ok.ensures.accepted other are
    (rw c.as_chunks.ensures.front (TkwUnder-from_graph c.cipher_of.ensures other (semiblocks_of c.args.wrapped.now) under)) in
    (refl, take_at c.unwrap.new.key (drop count c.args.key.now) count long ∙ found.1)

pub returns-in-Err-clause-accepted : goal.returns-in-Err-clause-accepted
returns-in-Err-clause-accepted c = λ done other are under.
    absurd (true≢false (sym (c.in-Err.ensures.accepted other are
    (rw c.as_chunks.ensures.front (TkwUnder-from_graph c.cipher_of.ensures other (semiblocks_of c.args.wrapped.now) under))).0))
