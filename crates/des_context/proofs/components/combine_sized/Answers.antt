-- The key that the components make is refused or not.
use Rattle.std.proofs.Common.{◌≢◌, refl, sym}
use Rattle.std.proofs.lemmas.Bool.{false≢true}
use Rattle.des_context.specs.declared.status.TheConstants.{OK, ERR_WEAK_KEY}
use Rattle.des_context.proofs.components.combine_sized.Goals as goal

distinct : OK ≢ ERR_WEAK_KEY
distinct same = cc

pub returns-in-Err-clause-refused : goal.returns-in-Err-clause-refused
returns-in-Err-clause-refused g c =
    let refused = rw (c.component.ensures, c.component-2.ensures, c.as_chunks.ensures.front)
    at (c.in-Err.ensures.refused.0 refl) in
    (λ same. rw c.requires.sized.2 refused, λ no. refl)

pub returns-in-Err-clause-accepted : goal.returns-in-Err-clause-accepted
returns-in-Err-clause-accepted g c =
    (λ ok. absurd (distinct (sym ok)), λ passed. absurd (passed ((returns-in-Err-clause-refused g c).0 refl)))

pub returns-in-Ok-clause-refused : goal.returns-in-Ok-clause-refused
returns-in-Ok-clause-refused g c =
    let refused = rw (c.component.ensures, c.component-2.ensures, c.as_chunks.ensures.front) at c.in-Ok.ensures.refused in
    (λ e. absurd (distinct e), rw c.requires.sized.2 (λ is. absurd (false≢true (refused.1 is))))

pub returns-in-Ok-clause-accepted : goal.returns-in-Ok-clause-accepted
returns-in-Ok-clause-accepted g c =
    (λ _ refused. absurd (distinct ((returns-in-Ok-clause-refused g c).1 refused)), λ _. refl)
