use Rattle.std.proofs.Common.{◌≡◌, ℕ, ◌-◌, List, ◌++◌, length, length-set, take, drop, Ok, refl, ap, ◌∙◌, subst, arith, rules}
use Rattle.std.proofs.lemmas.List.{length-take, length-drop, take_rest}
use Rattle.des_key_blocks.specs.OptionalBlocks.{IsOptionalBlock, AreOptionalBlocks}
use Rattle.des_key_blocks.proofs.OptionalBlockLists.{first-of}
use Rattle.des_key_blocks.proofs.OptionalBlockReads.{read-step, rest-step, left-some, left-none, left-after}
use Rattle.des_key_blocks.proofs.optional_blocks.read_blocks.Goals as goal

pub loop-at-init : goal.loop-at-init
unfolding AreOptionalBlocks
loop-at-init c = record {
  capacity = search rules;
  few = omega arith;
  within = omega arith;
  are = refl;
  rest = refl;
  left = λ read are. record { others = read; are = are; all = omega arith };
}

pub returns-then-count-eq-MAX_BLOCKS-clause-only :
    goal.returns-then-count-eq-MAX_BLOCKS-clause-only
returns-then-count-eq-MAX_BLOCKS-clause-only c = λ read few are.
    let left = c.loop-at.invariant.left read are in
    let some = left-some read c.loop-at.count c.loop-at.at c.args.text.now c.loop-at-test.true left in
    absurd (some (omega (arith, left.all)))

-- the first block of what is left of a text
begun : (at : ℕ) (text first back : List ℕ) → drop at text ≡ first ++ back
    → take (length text - at) (drop at text) ≡ first ++ back
begun at text first back is = take_rest text at ∙ is

pub returns-in_default-clause-only : goal.returns-in_default-clause-only
returns-in_default-clause-only c = λ read few are.
    let left = c.loop-at.invariant.left read are in
    let at : ℕ = c.loop-at.at in
    let text : List ℕ = c.args.text.now in
    let some = left-some read c.loop-at.count at text c.loop-at-test.true left in
    let f = first-of left.others (drop at text) some left.are in
    absurd (c.in_default.ensures.only f.name f.content f.first f.back f.block (begun at text f.first f.back f.is))

pub loop-at-preserved : goal.loop-at-preserved
loop-at-preserved c =
    let text : List ℕ = c.args.text.now in
    let at : ℕ = c.loop-at.at in
    let count : ℕ = c.loop-at.count in
    let size : ℕ = c.in-Some.size in
    let first = c.in-Some.ensures.first in
    let within = c.in-Some.ensures.within in
    let capacity = c.loop-at.invariant.capacity in
    record {
      capacity = length-set _ count c.in-Some.block ∙ capacity;
      few = omega arith;
      within = omega (
        arith,
        within,
        length-take (length text - at) (drop at text),
        length-drop at text,
        c.loop-at-test.true,
      );
      are = read-step _ count c.in-Some.block at size text (omega (arith, capacity)) c.loop-at.invariant.are
          (subst (λ (rest : List ℕ). IsOptionalBlock c.in-Some.block.name c.in-Some.block.content.now (take size rest))
          (take_rest text at) first);
      rest = rest-step _ _ c.loop-at.count c.in-Some.block c.loop-at.invariant.rest;
      left = λ read are.
          let left = c.loop-at.invariant.left read are in
          let some = left-some read count at text c.loop-at-test.true left in
          let f = first-of left.others (drop at text) some left.are in
          left-after read count at size text left f
          (c.in-Some.ensures.only f.name f.content f.first f.back f.block (begun at text f.first f.back f.is));
    }

pub returns-clause-only : goal.returns-clause-only
returns-clause-only c = λ read few are.
    let left = c.loop-at.invariant.left read are in
    let text : List ℕ = c.args.text.now in
    let at : ℕ = c.loop-at.at in
    let end : length (drop at text) ≡ 0 = omega (arith, length-drop at text, c.loop-at-test.false) in
    let none = left-none left.others (drop at text) end left.are in
    let all : c.loop-at.count ≡ length read = omega (arith, left.all, none) in
    ap (λ (count : ℕ). Ok count) all
