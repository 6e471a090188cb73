-- The blocks before the index are out of the chain, and those from it on are as they were.
use Rattle.std.proofs.Common.{◌≡◌, ℕ, ◌<◌, ◌≤◌, [], ◌∷◌, get_or, length}
use Rattle.des.specs.Cbc.{xor_blocks}
use Rattle.des_columns.proofs.form.xor_previous.Given as goal

abbrev pub invariant-steps : goal.invariant-steps
invariant-steps l = record {
  count : length l.answers ≡ length l.initial.answers;
  done : (m : ℕ) → m < l.k
      → get_or l.answers m [] ≡ xor_blocks (get_or l.initial.answers m []) (get_or (l.iv ∷ l.blocks) m []);
  rest : (m : ℕ) → l.k ≤ m → get_or l.answers m [] ≡ get_or l.initial.answers m [];
  before : l.before ≡ get_or (l.iv ∷ l.blocks) l.k [];
}
