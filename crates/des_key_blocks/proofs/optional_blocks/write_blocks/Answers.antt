use Rattle.std.proofs.Common.{ℕ, ◌+◌, ◌-◌, ◌≤◌, List, length, take, get_or, refl, ap, ◌∙◌, subst, arith, rules}
use Rattle.des_key_blocks.specs.OptionalBlocks.{AreOptionalBlocks, blocks_text, size_of_all}
use Rattle.des_key_blocks.proofs.OptionalBlockSizes.{no_block, pairs_of, size-within, size-more, size_of-least, size-filled_least, all-pairs}
use Rattle.des_key_blocks.proofs.OptionalBlockWrites.{are-step, are-filled, eight-zeros, last-fits, last-size}
use Rattle.des_key_blocks.proofs.WrittenTexts.{text-step, text-filled}
use Rattle.des_key_blocks.proofs.optional_blocks.write_blocks.Goals as goal

pub loop-block-init : goal.loop-block-init
unfolding AreOptionalBlocks size_of_all
loop-block-init c = record { so_far = refl; are = refl; text = refl }

pub size_of-requires : goal.size_of-requires
size_of-requires c =
    let within = size-within c.args.blocks.now c.loop-block.block-index no_block c.loop-block-test.true in
    omega (arith, within, size_of-least (get_or c.args.blocks.now c.loop-block.block-index no_block).content.now)

pub write_block-requires-clause-few : goal.write_block-requires-clause-few
write_block-requires-clause-few c =
    let within = size-within c.args.blocks.now c.loop-block.block-index no_block c.loop-block-test.true in
    omega (arith, within, size_of-least (get_or c.args.blocks.now c.loop-block.block-index no_block).content.now)

pub overflow_add-end : goal.overflow_add-end
overflow_add-end c =
    let within = size-within c.args.blocks.now c.loop-block.block-index no_block c.loop-block-test.true in
    let bound : c.loop-block.at + c.size_of.result ≤ 9999 = omega (arith, within) in
    search (rules, bound)

pub slice_bounds-write_block-end : goal.slice_bounds-write_block-end
slice_bounds-write_block-end c =
    let within = size-within c.args.blocks.now c.loop-block.block-index no_block c.loop-block-test.true in
    let bound : c.loop-block.at + c.size_of.result ≤ length c.loop-block.text =
    omega (arith, within, size-filled_least (pairs_of c.args.blocks.now)) in
    search (rules, bound)

pub loop-block-preserved : goal.loop-block-preserved
loop-block-preserved c =
    let within = size-within c.args.blocks.now c.loop-block.block-index no_block c.loop-block-test.true in
    let bound : c.loop-block.at ≤ length c.loop-block.text =
    omega (arith, within, size-filled_least (pairs_of c.args.blocks.now)) in
    record {
      so_far = let more = size-more c.args.blocks.now c.loop-block.block-index no_block c.loop-block-test.true in
          omega (arith, more);
      are = are-step c.args.blocks.now c.loop-block.block-index no_block c.loop-block.at _ c.size_of.result
          c.loop-block.text c.write_block.new.text c.loop-block-test.true bound (search rules)
          c.loop-block.invariant.are c.write_block.ensures.is;
      text = text-step c.args.blocks.now c.loop-block.block-index no_block c.loop-block.at _ c.size_of.result
          c.loop-block.text c.write_block.new.text c.loop-block-test.true bound (search rules)
          c.loop-block.invariant.text c.write_block.ensures.text;
    }

pub slice_bounds-write_block-count-then-at-ne0 : goal.slice_bounds-write_block-count-then-at-ne0
slice_bounds-write_block-count-then-at-ne0 c =
    let all = c.loop-block.invariant.so_far
    ∙ ap size_of_all (all-pairs c.args.blocks.now c.loop-block.block-index c.loop-block-test.false) in
    omega (arith, all, size-filled_least (pairs_of c.args.blocks.now))

pub slice_bounds-write_block-start-then-at-ne0 : goal.slice_bounds-write_block-start-then-at-ne0
slice_bounds-write_block-start-then-at-ne0 c =
    let all = c.loop-block.invariant.so_far
    ∙ ap size_of_all (all-pairs c.args.blocks.now c.loop-block.block-index c.loop-block-test.false) in
    let bound : c.loop-block.at ≤ length c.loop-block.text =
    omega (arith, all, size-filled_least (pairs_of c.args.blocks.now)) in
    search (rules, bound)

pub write_block-requires-then-at-ne0-clause-size :
    goal.write_block-requires-then-at-ne0-clause-size
write_block-requires-then-at-ne0-clause-size c =
    let all = c.loop-block.invariant.so_far
    ∙ ap size_of_all (all-pairs c.args.blocks.now c.loop-block.block-index c.loop-block-test.false) in
    let at : ℕ = c.loop-block.at in
    let n : ℕ = c.zeros_after.result in
    let text : List ℕ = c.loop-block.text in
    let fits = last-fits (pairs_of c.args.blocks.now) at n text all c.if-at-ne0.true c.zeros_after.ensures
    (c.loop-block.auto.text ∙ c.requires.size) in
    last-size at n text _ c.zeros_after.ensures fits (eight-zeros at n c.zeros_after.ensures)

pub returns-then-at-ne0-clause-are : goal.returns-then-at-ne0-clause-are
returns-then-at-ne0-clause-are c =
    let front = all-pairs c.args.blocks.now c.loop-block.block-index c.loop-block-test.false in
    let all = c.loop-block.invariant.so_far ∙ ap size_of_all front in
    let at : ℕ = c.loop-block.at in
    let text : List ℕ = c.loop-block.text in
    let there : at ≤ length text = omega (arith, all, size-filled_least (pairs_of c.args.blocks.now)) in
    let are = subst (λ (pairs : List (List ℕ × List ℕ)). AreOptionalBlocks pairs (take at text)) front
    c.loop-block.invariant.are in
    are-filled (pairs_of c.args.blocks.now) at (length text - at) text _ c.write_block-then-at-ne0.new.text all
    c.if-at-ne0.true (omega arith) (search rules) (eight-zeros at c.zeros_after.result c.zeros_after.ensures) are
    c.write_block-then-at-ne0.ensures.is

pub returns-then-at-ne0-clause-text : goal.returns-then-at-ne0-clause-text
returns-then-at-ne0-clause-text c =
    let front = all-pairs c.args.blocks.now c.loop-block.block-index c.loop-block-test.false in
    let all = c.loop-block.invariant.so_far ∙ ap size_of_all front in
    let at : ℕ = c.loop-block.at in
    let text : List ℕ = c.loop-block.text in
    let there : at ≤ length text = omega (arith, all, size-filled_least (pairs_of c.args.blocks.now)) in
    text-filled (pairs_of c.args.blocks.now) at (length text - at) text _ c.write_block-then-at-ne0.new.text all
    c.if-at-ne0.true (omega arith) (search rules) (eight-zeros at c.zeros_after.result c.zeros_after.ensures)
    (c.loop-block.invariant.text ∙ ap blocks_text front) c.write_block-then-at-ne0.ensures.text
