use Rattle.std.proofs.Common.{◌≡◌, ◌/◌, ◌-◌, ◌∙◌, length, drop, refl, rules, sym, take_at, true≢false}
use Rattle.des_key_wraps.proofs.Enclosed.{Encloses-weaker}
use Rattle.des_c.proofs.key_wrap.cukvashe_cms_unwrap_key.Goals as goal

pub returns-in-Ok-clause-unwrapped : goal.returns-in-Ok-clause-unwrapped
returns-in-Ok-clause-unwrapped c = λ done.
    let count = length c.args.wrapped.now / 8 - 2 in
    let long : length c.unwrap.new.key ≡ count = search rules in
    let found = c.in-Ok.ensures.unwrapped in (
      found.0,
      found.1,
      rw (take_at c.unwrap.new.key (drop count c.args.key.now) count long, ← c.as_chunks.ensures.front)
          (Encloses-weaker (λ x y. (c.cipher_of.ensures x y).1) found.2),
    )

pub returns-in-Ok-clause-accepted : goal.returns-in-Ok-clause-accepted
returns-in-Ok-clause-accepted c = λ done iv other is_iv wraps.
    let count = length c.args.wrapped.now / 8 - 2 in
    let long : length c.unwrap.new.key ≡ count = search rules in
    let found = c.in-Ok.ensures.accepted iv other is_iv
    (Encloses-weaker (λ x y. (c.cipher_of.ensures x y).0) (rw c.as_chunks.ensures.front wraps)) in
    (refl, take_at c.unwrap.new.key (drop count c.args.key.now) count long ∙ found.1)

pub returns-in-Err-clause-accepted : goal.returns-in-Err-clause-accepted
returns-in-Err-clause-accepted c = λ done iv other is_iv wraps.
    absurd (true≢false (sym (c.in-Err.ensures.accepted iv other is_iv
    (Encloses-weaker (λ x y. (c.cipher_of.ensures x y).0) (rw c.as_chunks.ensures.front wraps))).0))
