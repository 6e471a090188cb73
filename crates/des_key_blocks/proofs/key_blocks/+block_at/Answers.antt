use Rattle.std.proofs.Common.{◌≡◌, ℕ, ◌+◌, ◌-◌, List, Some, None, length, drop, sym, subst, arith}
use Rattle.std.specs.Prelude.{slice_get}
use Rattle.std.proofs.lemmas.List.{take_rest}
use Rattle.des_key_blocks.proofs.BlockPlaces.{place-none, place-first, place-after, front-after, ends-none}
use Rattle.des_key_blocks.proofs.key_blocks.+block_at.Goals as goal

pub returns-in_err-block-clause-found : goal.returns-in_err-block-clause-found
returns-in_err-block-clause-found t c = λ blocks are.
    rw c.from_residual.ensures (place-none blocks c.args.text.now c.args.place are c.in_err-block.ensures.only)

pub returns-then-place-eq0-clause-found : goal.returns-then-place-eq0-clause-found
returns-then-place-eq0-clause-found t c = λ blocks are.
    let block = c.in_ok-block.block in
    subst (λ n. Some (block.name, block.content.now) ≡ slice_get blocks n) (sym c.if-place-eq0.true)
    (place-first blocks block.name block.content.now c.args.text.now c.in_ok-block.size are c.in_ok-block.ensures.first
    c.in_ok-block.ensures.only)

pub returns-in_err-block-2-clause-found : goal.returns-in_err-block-2-clause-found
returns-in_err-block-2-clause-found t c = λ blocks are.
    let text : List ℕ = c.args.text.now in
    let block = c.in_ok-block.block in
    rw c.from_residual-in_err-block-2.ensures
    (place-after blocks block.name block.content.now text c.in_ok-block.size c.args.place None are
    c.in_ok-block.ensures.first c.in_ok-block.ensures.only c.if-place-eq0.false
    (λ others left. c.in_err-block-2.ensures.found others (rw (take_rest text c.in_ok-block.size) left)))

pub returns-clause-found : goal.returns-clause-found
returns-clause-found t c = λ blocks are.
    let text : List ℕ = c.args.text.now in
    let block = c.in_ok-block.block in
    let found = c.in_ok-block-2.block in
    place-after blocks block.name block.content.now text c.in_ok-block.size c.args.place
    (Some (found.name, found.content.now)) are c.in_ok-block.ensures.first c.in_ok-block.ensures.only
    c.if-place-eq0.false
    (λ others left. c.in_ok-block-2.ensures.found others (rw (take_rest text c.in_ok-block.size) left))

pub returns-then-place-eq0-clause-end : goal.returns-then-place-eq0-clause-end
returns-then-place-eq0-clause-end t c = λ blocks are.
    let short = c.in_ok-block.ensures.short in
    front-after blocks c.args.text.now c.in_ok-block.size 0 0 _ _ are c.in_ok-block.ensures.only (omega arith)
    (omega arith) (λ others left. ends-none others (drop c.in_ok-block.size c.args.text.now))

pub returns-clause-end : goal.returns-clause-end
returns-clause-end t c = λ blocks are.
    let text : List ℕ = c.args.text.now in
    let size : ℕ = c.in_ok-block.size in
    let place : c.args.place - 1 + 1 ≡ c.args.place = omega arith in
    front-after blocks text size c.args.place (c.in_ok-block-2.before + length c.in_ok-block-2.block.content.now) _ _
    are c.in_ok-block.ensures.only (omega arith) (omega arith) (λ others left.
    rw (take_rest text size, place) at (c.in_ok-block-2.ensures.end others (rw (take_rest text size) left)))
