use Rattle.std.proofs.Common.{rules, ◌≡◌, ℕ, ◌+◌, ◌<◌, ◌≤◌, List, [], ◌∙◌, refl, length, get_or, set, arith}
use Rattle.des.specs.Cbc.{xor_blocks, block_at, block_before}
use Rattle.des_fast.specs.SideBySide.{AreHalvesOf}
use Rattle.des_fast.proofs.XoredHalves.{AreExpansions-xor, AreHalvesOf-xor}
use Rattle.des_fast.proofs.chained_halves.cbc_encrypt.Goals as goal

-- a block more
chained-next : (f : List ℕ → List ℕ) (iv previous answer : List ℕ) (old now : List (List ℕ)) (k : ℕ) → k < length now
    → previous ≡ block_before iv now (k + 1) → answer ≡ f (xor_blocks (get_or now k []) previous)
    → get_or now k [] ≡ get_or old k []
    → ((n : ℕ) → 1 ≤ n → n ≤ k → block_at now n ≡ f (xor_blocks (block_at old n) (block_before iv now n)))
    → (n : ℕ) → 1 ≤ n → n ≤ k + 1
    → block_at (set now k answer) n ≡ f (xor_blocks (block_at old n) (block_before iv (set now k answer) n))
chained-next f iv previous answer old now k below before made same chained = search rules

pub process_halves-left-requires-clause-left : goal.process_halves-left-requires-clause-left
process_halves-left-requires-clause-left g c =
    AreExpansions-xor g.W.One.Groups.BLOCKS g.W.One.Groups.word _ _ _ c.xor.ensures c.of_blocks-block_left.ensures.left
    c.loop-block.invariant.left

pub process_halves-left-requires-clause-right : goal.process_halves-left-requires-clause-right
process_halves-left-requires-clause-right g c =
    AreExpansions-xor g.W.One.Groups.BLOCKS g.W.One.Groups.word _ _ _ c.xor-in-loop-block.ensures
    c.of_blocks-block_left.ensures.right c.loop-block.invariant.right

pub loop-block-preserved : goal.loop-block-preserved
loop-block-preserved g c =
    let iv : List ℕ = c.args.iv.now in
    let blocks : List (List ℕ) = c.loop-block.blocks in
    let k : ℕ = c.loop-block.block-index in
    let answer : List ℕ = c.block_after.result in
    let f : List ℕ → List ℕ = g.A.BlockTransform.output c.args.passes.now in
    let previous : List ℕ = block_before iv blocks (k + 1) in
    let one : 0 < g.W.One.Groups.BLOCKS = omega (arith, g.met.W.One.OneWord.is_one) in
    let begins = AreHalvesOf-xor g.W.One.Groups.BLOCKS g.W.One.Groups.word (get_or blocks k []) previous _ _ _ one (search rules)
    c.of_blocks-block_left.ensures.halves c.loop-block.invariant.halves c.xor.ensures c.xor-in-loop-block.ensures in
    let made : answer ≡ f (xor_blocks (get_or blocks k []) previous) =
    c.block_after.ensures.block ∙ c.process_halves-left.ensures.output 0 one (xor_blocks (get_or blocks k []) previous) begins.first in
    let last : answer ≡ block_before iv (set blocks k answer) (k + 1 + 1) = search rules in
    let halves : AreHalvesOf g.W.One.Groups.word (block_before iv (set blocks k answer) (k + 1 + 1)) _ =
    rw last at c.block_after.ensures.halves in record {
      left = c.process_halves-left.ensures.right;
      right = c.process_halves-left.ensures.left;
      halves = halves;
      chained = chained-next f iv previous answer c.args.blocks.now blocks k (search rules) refl made (search rules)
          c.loop-block.invariant.chained;
      rest = search rules;
    }
