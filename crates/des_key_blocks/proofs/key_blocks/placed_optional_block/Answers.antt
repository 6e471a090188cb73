use Rattle.std.proofs.Common.{◌≡◌, ℕ, ◌+◌, ◌-◌, ◌≤◌, List, length, take, drop, sym, ap, ◌∙◌, subst, arith}
use Rattle.std.proofs.lemmas.List.{length-take, take-take, drop-take, drop-drop}
use Rattle.des_key_blocks.specs.KeyBlockReading.{HasLayout}
use Rattle.des_key_blocks.specs.OptionalBlocks.{AreOptionalBlocks}
use Rattle.des_key_blocks.proofs.BlockParts.{optional-cut}
use Rattle.des_key_blocks.proofs.key_blocks.placed_optional_block.Goals as goal

pub returns-in_err-size-clause-found : goal.returns-in_err-size-clause-found
returns-in_err-size-clause-found c = λ layout.
    absurd (c.in_err-size.ensures.only layout.header layout.blocks layout.front layout.rest layout.parts layout.fact)

-- the optional blocks, between the header and the rest
optional-there : (block : List ℕ) (layout : HasLayout block) (size : ℕ) → size ≡ length layout.front
    → AreOptionalBlocks layout.blocks (take (size - 16) (drop 16 block))
optional-there block layout size is =
    subst (λ (text : List ℕ). AreOptionalBlocks layout.blocks text)
    (sym (optional-cut layout.header layout.blocks layout.front layout.rest block layout.parts size is))
    layout.parts.are_optional

pub returns-in-None-clause-found : goal.returns-in-None-clause-found
returns-in-None-clause-found c = λ layout.
    c.in-None.ensures.found layout.blocks
    (optional-there c.args.block.now layout c.in_ok-size.size (c.in_ok-size.ensures.only layout.header layout.blocks
    layout.front layout.rest layout.parts layout.fact).1)

pub returns-in-Some-clause-found : goal.returns-in-Some-clause-found
returns-in-Some-clause-found c = λ layout.
    c.in-Some.ensures.found layout.blocks
    (optional-there c.args.block.now layout c.in_ok-size.size (c.in_ok-size.ensures.only layout.header layout.blocks
    layout.front layout.rest layout.parts layout.fact).1)

-- some characters of a text stand in each that it begins
part-there : (text : List ℕ) (size from count : ℕ) → from + count ≤ size
    → take count (drop from (take size text)) ≡ take count (drop from text)
part-there text size from count within =
    let split : size ≡ from + (size - from) = omega arith in
    ap (λ n. take count (drop from (take n text))) split ∙ ap (take count) (drop-take from (size - from) text)
    ∙ take-take count (size - from) (drop from text) (omega arith)

pub returns-in-Some-clause-content : goal.returns-in-Some-clause-content
returns-in-Some-clause-content c =
    let block : List ℕ = c.args.block.now in
    let within = c.in-Some.ensures.within in
    let size : ℕ = c.in_ok-size.size - 16 in
    c.in-Some.ensures.content
    ∙ part-there (drop 16 block) size c.in-Some.before (length c.in-Some.found.content.now)
    (omega (arith, length-take size (drop 16 block)))
    ∙ ap (take (length c.in-Some.found.content.now)) (drop-drop c.in-Some.before 16 block)

pub returns-in-Some-clause-end : goal.returns-in-Some-clause-end
returns-in-Some-clause-end c = λ layout.
    let block : List ℕ = c.args.block.now in
    let within = c.in-Some.ensures.within in
    let size : ℕ = c.in_ok-size.size - 16 in
    let total : ℕ = c.in-Some.before + length c.in-Some.found.content.now in
    let same : 16 + c.in-Some.before + length c.in-Some.found.content.now ≡ 16 + total = omega arith in
    rw (same, drop-take 16 total block)
    (rw (take-take total size (drop 16 block) (omega (arith, length-take size (drop 16 block))))
    at (c.in-Some.ensures.end layout.blocks
    (optional-there c.args.block.now layout c.in_ok-size.size (c.in_ok-size.ensures.only layout.header layout.blocks
    layout.front layout.rest layout.parts layout.fact).1)))
