-- The blocks before the index are out of the chain, which goes on from the block before the others.
use Rattle.std.proofs.Common.{◌≡◌, ℕ, List, ◌-◌, ◌≤◌, take, drop, length}
use Rattle.des.specs.Cbc.{CbcDecrypts, next_vector}
use Rattle.des.proofs.cbc.decrypt_by.Given as goal

abbrev pub invariant-parts : goal.invariant-parts
invariant-parts g l = record {
  within : l.from ≤ length l.blocks;
  buffer : 1 ≤ length l.buffer;
  before : l.before ≡ next_vector l.iv (take l.from l.initial.blocks);
  cbc_decrypted : (f : List ℕ → List ℕ) → g.D.ListDecryption.decrypts l.by f
      → CbcDecrypts f l.iv (take l.from l.initial.blocks) (take l.from l.blocks);
  rest : drop l.from l.blocks ≡ drop l.from l.initial.blocks;
}

abbrev pub decreases-parts : goal.decreases-parts
decreases-parts g l = length l.blocks - l.from
