use Rattle.std.proofs.Common.{◌≡◌, ℕ, ◌+◌, ◌%◌, List, length, sym, ap, ◌∙◌}
use Rattle.std.proofs.lemmas.List.{take_rest}
use Rattle.std.proofs.lemmas.Option.{same_Some}
use Rattle.std.proofs.lemmas.Result.{err_from_is_err_and}
use Rattle.des_key_blocks.proofs.BlockParts.{front-length, least, header-there, optional-there, parts-read}
use Rattle.des_key_blocks.proofs.LayoutFaults.{layout-fault}
use Rattle.des_key_blocks.proofs.key_blocks.front_of.Goals as goal

pub returns-in_err-header-clause-only : goal.returns-in_err-header-clause-only
returns-in_err-header-clause-only c = λ header blocks front rest parts.
    absurd (c.in_err-header.ensures.only header parts.context (length blocks) (least header blocks front rest c.args.block.now parts)
    parts.short parts.few (header-there header blocks front rest c.args.block.now parts))

pub returns-in_err-header-clause-fault : goal.returns-in_err-header-clause-fault
returns-in_err-header-clause-fault c =
    let p = err_from_is_err_and c.from_residual.result c.from_residual.ensures.1 in
    rw (p.1, p.2) (layout-fault c.args.block.now _ (sym c.in_err-header.ensures.fault))

-- if a block has parts, their header and as many optional blocks were read
pub returns-in-None-clause-only : goal.returns-in-None-clause-only
returns-in-None-clause-only c = λ header blocks front rest parts.
    let block : List ℕ = c.args.block.now in
    let read = c.in_ok-header.ensures.only header parts.context (length blocks) (least header blocks front rest block parts)
    parts.short parts.few (header-there header blocks front rest block parts) in
    let found = c.in-None.ensures.only blocks parts.optional rest (sym read.2) parts.are_optional
    (take_rest block 16 ∙ optional-there header blocks front rest block parts) in
    absurd (cc found)

pub returns-in-None-clause-fault : goal.returns-in-None-clause-fault
returns-in-None-clause-fault c = (
  sym c.in_ok-header.ensures.fault,
  λ so. returns-in-None-clause-only c so.header so.blocks so.front so.rest so.parts,
)

pub returns-then-size-ne0-clause-only : goal.returns-then-size-ne0-clause-only
returns-then-size-ne0-clause-only c = λ header blocks front rest parts.
    let block : List ℕ = c.args.block.now in
    let read = c.in_ok-header.ensures.only header parts.context (length blocks) (least header blocks front rest block parts)
    parts.short parts.few (header-there header blocks front rest block parts) in
    let found = c.in-Some.ensures.only blocks parts.optional rest (sym read.2) parts.are_optional
    (take_rest block 16 ∙ optional-there header blocks front rest block parts) in
    let size : c.in-Some.size ≡ length parts.optional = same_Some _ _ found in
    let whole : length parts.optional % 8 ≡ 0 = parts.whole in
    c.if-size-ne0.true (ap (λ n. n % 8) size ∙ whole)

pub returns-then-size-ne0-clause-fault : goal.returns-then-size-ne0-clause-fault
returns-then-size-ne0-clause-fault c = (
  sym c.in_ok-header.ensures.fault,
  λ so. returns-then-size-ne0-clause-only c so.header so.blocks so.front so.rest so.parts,
)

pub returns-clause-found : goal.returns-clause-found
returns-clause-found c =
    let all = c.in-Some.ensures.all in (
      all.0,
      parts-read c.in_ok-header.header c.in_ok-header.context all.0 c.in_ok-header.count c.in-Some.size c.args.block.now
          c.in_ok-header.ensures.is_header c.in_ok-header.ensures.short c.in_ok-header.ensures.few
          c.in_ok-header.ensures.text all.1.0 all.1.1 c.in-Some.ensures.within c.if-size-ne0.false,
    )

pub returns-clause-only : goal.returns-clause-only
returns-clause-only c = λ header blocks front rest parts.
    let block : List ℕ = c.args.block.now in
    let read = c.in_ok-header.ensures.only header parts.context (length blocks) (least header blocks front rest block parts)
    parts.short parts.few (header-there header blocks front rest block parts) in
    let found = c.in-Some.ensures.only blocks parts.optional rest (sym read.2) parts.are_optional
    (take_rest block 16 ∙ optional-there header blocks front rest block parts) in
    let size : c.in-Some.size ≡ length parts.optional = same_Some _ _ found in
    ((read.0, read.1), ap (λ n. 16 + n) size ∙ sym (front-length header blocks front rest block parts), read.3)
