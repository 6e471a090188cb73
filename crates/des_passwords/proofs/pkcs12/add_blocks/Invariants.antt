use Rattle.std.proofs.Common.{◌≡◌, ◌-◌, ◌++◌, ℕ, List}
use Rattle.des_passwords.proofs.BlocksOfTexts.{raised_copies}
use Rattle.des_passwords.proofs.pkcs12.add_blocks.Given as goal

-- the blocks that were added, and those that are left
abbrev pub invariant-steps : goal.invariant-steps
invariant-steps g l = record {
  text : g.T.Blocks.text l.text ≡ g.T.Blocks.text l.fn.text;
  added : (m : List ℕ) → g.H.HashFunction.holds l.fn.hash m
      → (done : List ℕ) × g.H.HashFunction.holds l.hash (m ++ done)
      × (done ++ raised_copies l.b (g.T.Blocks.text l.fn.text) (g.T.Blocks.left l.text) (l.count - l.counter)
      ≡ raised_copies l.b (g.T.Blocks.text l.fn.text) (g.T.Blocks.left l.fn.text) l.count);
}
