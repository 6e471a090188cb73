-- The buffer begins with the plaintext of the blocks before the index.
use Rattle.std.proofs.Common.{◌≡◌, ℕ, List, ◌*◌, ◌-◌, ◌≤◌, ◌++◌, length, take, drop}
use Rattle.des_context.specs.Contexts.{IsContextOf}
use Rattle.des_context.specs.CipherTypes.{relation_of}
use Rattle.des_context.specs.Salted.{IsPlainOf}
use Rattle.des_context.proofs.salted.write_front.Given as goal

abbrev pub invariant-pieces : goal.invariant-pieces
invariant-pieces l = record {
  within : l.from ≤ length l.blocks;
  begins : (key : List ℕ) → IsContextOf l.context key → (start : List ℕ)
      × IsPlainOf (relation_of key) l.vector (take l.from l.blocks) start
      × (l.plain ≡ start ++ drop (8 * l.from) l.fn.plain);
}

abbrev pub decreases-pieces : goal.decreases-pieces
decreases-pieces l = length l.blocks - l.from
