use Rattle.std.proofs.Common.{◌≤◌, length, ◌∙◌, arith}
use Rattle.des_lines.proofs.OptionalLines.{past-last, one-more, no-more}
use Rattle.des_lines.proofs.key_block_lines.add_optional_blocks.Goals as goal

-- a block that can be read has no fault
pub returns-in_err-found : goal.returns-in_err-found
returns-in_err-found c = λ header blocks readable.
    absurd (c.in_err-found.ensures.only header blocks readable.0 readable.1.0 readable.1.1.0 readable.1.1.1)

-- there are no more
pub returns-in-None : goal.returns-in-None
returns-in-None c = λ header blocks readable.
    let found = c.in_ok-found.ensures.only header blocks readable.0 readable.1.0 readable.1.1.0 readable.1.1.1 in
    let none = rw c.in-None.is at found in (
      tt,
      no-more _ _ blocks c.loop-place.place (c.loop-place.invariant header blocks readable)
          (past-last blocks c.loop-place.place none),
    )

-- one more
pub loop-place-preserved : goal.loop-place-preserved
loop-place-preserved c = λ header blocks readable.
    let found = c.in_ok-found.ensures.only header blocks readable.0 readable.1.0 readable.1.1.0 readable.1.1.1 in
    let there = rw c.in-Some.is at found in
    c.in_ok-add_optional-in-Some.ensures.line
    ∙ one-more _ _ blocks c.loop-place.place (c.loop-place.invariant header blocks readable) _ there

-- there are no more than 99
pub returns : goal.returns
returns c = λ header blocks readable.
    let few = readable.1.1.0.few in
    let past : length blocks ≤ c.loop-place.place = omega arith in
    (tt, no-more _ _ blocks c.loop-place.place (c.loop-place.invariant header blocks readable) past)
