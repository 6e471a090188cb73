use Rattle.std.proofs.Common.{rules, ◌≡◌, ℕ, ◌<◌, List, [], ap, ◌∙◌, length, get_or, arith}
use Rattle.des_fast.specs.ChainingValues.{register_before}
use Rattle.des_fast.specs.SideBySide.{AreHalvesOf}
use Rattle.des_fast.proofs.OutputBlocks.{outputs-next, register-next, register-behind}
use Rattle.des_fast.proofs.XoredHalves.{AreExpansions-xor, AreHalvesOf-xor}
use Rattle.des_fast.proofs.chained_halves.write_outputs.Goals as goal
use Rattle.des_fast.proofs.chained_halves.write_outputs.Goals.{in-Some, in-None}

pub loop-j-preserved : goal.loop-j-preserved
loop-j-preserved g c =
    let iv : List ℕ = c.args.iv.now in
    let p : List (List ℕ) = c.args.plaintext.now in
    let o : List (List ℕ) = c.loop-j.outputs in
    let j : ℕ = c.loop-j.j in
    let answer : List ℕ = c.block_after.result in
    let blocks : ℕ = g.W.One.Groups.BLOCKS in
    let word = g.W.One.Groups.word in
    let one : 0 < blocks = omega (arith, g.met.W.One.OneWord.is_one) in
    let within : j < length o = search rules in
    let own : AreHalvesOf g.W.One.Groups.word answer _ = c.block_after.ensures.halves in
    let written = outputs-next (g.A.BlockTransform.output c.args.passes.now) iv answer p o j within
    (c.block_after.ensures.block
    ∙ c.process_halves-left.ensures.output 0 one (register_before iv p o j) c.loop-j.invariant.halves.first)
    c.loop-j.invariant.written in
    elim c.match-get.branch [
      | in-Some w ↦
          let is = w.halves-is in
          let is_next : w.in-Some.block.now ≡ get_or p j [] = search rules in
          let more : j < length p = search rules in record {
            left = rw is (AreExpansions-xor blocks word _ _ _ w.xor.ensures w.of_blocks-block_left.ensures.left
                c.process_halves-left.ensures.right);
            right = rw is (AreExpansions-xor blocks word _ _ _ w.xor-in-Some.ensures w.of_blocks-block_left.ensures.right
                c.process_halves-left.ensures.left);
            halves = rw (is, register-next iv answer w.in-Some.block.now p o j within more is_next)
                (AreHalvesOf-xor blocks word w.in-Some.block.now answer _ _ _ one (ap length is_next ∙ c.told-plaintext j more) w.of_blocks-block_left.ensures.halves
                own w.xor.ensures w.xor-in-Some.ensures);
            written = written;
          }
      | in-None w ↦
          let is = w.halves-is in record {
            left = rw is c.process_halves-left.ensures.right;
            right = rw is c.process_halves-left.ensures.left;
            halves = rw (is, register-behind iv answer p o j within (search rules) own.count) own;
            written = written;
          }
    ]
