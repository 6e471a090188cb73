use Rattle.std.proofs.Common.{ℕ, ◌≤◌}
use Rattle.des.specs.Blocks.{part}
use Rattle.des_fast.specs.KeptRoundKeys.{AreRoundKeysOf, words_of_part}
use Rattle.des_context.proofs.contexts.write_parts.Given as goal

abbrev pub invariant-parts : goal.invariant-parts
invariant-parts l = (n : ℕ) → 1 ≤ n → n ≤ l.k → AreRoundKeysOf (words_of_part n l.context) (part n l.fn.key)
