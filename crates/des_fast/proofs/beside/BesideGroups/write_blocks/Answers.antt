use Rattle.std.proofs.Common.{◌≡◌, ℕ, ◌+◌, ◌-◌, ◌≤◌, List, [], ◌++◌, length, drop, get_or, subst, ap, ap₂, sym, ◌∙◌, inl, inr, arith}
use Rattle.std.proofs.lemmas.Bool.{cases_lt}
use Rattle.std.proofs.lemmas.List.{get_or_append_left, length-append}
use borrow.Rule.Slice.PartMut.{put_mid}
use Rattle.des_fast.specs.Groups.{half_of}
use Rattle.des_fast.specs.HalfBlocks.{last_block}
use Rattle.des_fast.specs.Beside.{word_beside}
use Rattle.des_fast.proofs.BesideWords.{word_beside-first, word_beside-second}
use Rattle.des_fast.proofs.LastChainingValues.{get_or-put_below, get_or-put_in}
use Rattle.des_fast.proofs.beside.BesideGroups.write_blocks.Goals as goal

pub write_blocks-requires-2-clause-left : goal.write_blocks-requires-2-clause-left
write_blocks-requires-2-clause-left g c b within =
    rw word_beside-second at (c.requires.left (g.A.Groups.BLOCKS + b) (omega arith))

pub write_blocks-requires-2-clause-right : goal.write_blocks-requires-2-clause-right
write_blocks-requires-2-clause-right g c b within =
    rw word_beside-second at (c.requires.right (g.A.Groups.BLOCKS + b) (omega arith))

-- the first blocks are written, and then those after them
pub returns-clause-written : goal.returns-clause-written
returns-clause-written g c b within =
    let m : ℕ = g.A.Groups.BLOCKS in
    let n : ℕ = c.count-count.result in
    let front : List (List ℕ) = c.write_blocks.new.blocks ++ drop n c.args.blocks.now in
    let first = g.A.Groups.word in
    let second = g.B.Groups.word in
    let word = word_beside m first second in
    let made : List (List ℕ) = put_mid n (length front - n) front c.write_blocks-2.new.blocks in
    let IsWritten = λ (k : ℕ). get_or made k [] ≡ last_block (half_of (word k c.args.left), half_of (word k c.args.right)) in
    let at : n ≡ m = c.count-count.ensures in
    let inside : n ≤ length front = omega (arith, c.write_blocks.ensures.count, length-append c.write_blocks.new.blocks (drop n c.args.blocks.now)) in
    elim (cases_lt b m) [
      | inl low ↦
          get_or-put_below n _ front _ b (omega arith) inside
          ∙ get_or_append_left c.write_blocks.new.blocks _ [] b (omega (arith, c.write_blocks.ensures.count))
          ∙ c.write_blocks.ensures.written b low
          ∙ sym (ap₂ (λ (l r : ℕ). last_block (half_of l, half_of r))
          (word_beside-first m first second b c.args.left low) (word_beside-first m first second b c.args.right low))
      | inr from ↦
          let k : ℕ = b - m in
          subst IsWritten (omega arith)
          (ap (λ (i : ℕ). get_or made (i + k) []) (sym at)
          ∙ get_or-put_in n _ front _ k (omega (arith, c.write_blocks-2.ensures.count)) inside
          ∙ c.write_blocks-2.ensures.written k (omega arith)
          ∙ sym (ap₂ (λ (l r : ℕ). last_block (half_of l, half_of r))
          (word_beside-second m first second k c.args.left) (word_beside-second m first second k c.args.right)))
    ]
