use Rattle.std.proofs.Common.{◌≡◌, ◌/◌, ◌+◌, length, drop, rules, take_at}
use Rattle.des_key_wraps.proofs.Enclosed.{Encloses-weaker}
use Rattle.des_c.proofs.key_wrap.cukvashe_cms_wrap_key.Goals as goal

pub returns-clause-wrapped : goal.returns-clause-wrapped
returns-clause-wrapped c = λ done.
    let count = length c.args.key.now / 8 + 2 in
    let long : length c.wrap.new.wrapped ≡ count = search rules in
    rw (take_at c.wrap.new.wrapped (drop count c.args.wrapped.now) count long, ← c.as_chunks.ensures.front)
    (Encloses-weaker (λ x y. (c.cipher_of.ensures x y).1) c.wrap.ensures)
