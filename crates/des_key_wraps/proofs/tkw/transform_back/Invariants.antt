-- What the steps up to the index make the semiblocks of, all steps make the list of that was given, and nothing else.
use Rattle.std.proofs.Common.{◌≡◌, ℕ, ◌≤◌, ◌+◌, ◌*◌, ◌%◌, List, ◌∷◌}
use Rattle.des_key_wraps.specs.Tkw.{tw_steps}
use Rattle.des_key_wraps.proofs.TkwSteps.{AreSemiblocks, turned}
use Rattle.des_key_wraps.proofs.tkw.transform_back.Given as goal

abbrev pub invariant-steps : goal.invariant-steps
invariant-steps g l = record {
  within : l.left ≤ 6 * l.count;
  undone : (start : List (List ℕ)) → tw_steps (g.C.BlockCipherEncrypt.encrypted l.cipher) l.left start
      ≡ l.first ∷ turned l.words (l.left % l.count)
      → tw_steps (g.C.BlockCipherEncrypt.encrypted l.cipher) (6 * l.count) start ≡ l.initial.first ∷ l.initial.words;
  only : (start : List (List ℕ)) → AreSemiblocks (l.count + 1) start
      → tw_steps (g.C.BlockCipherEncrypt.encrypted l.cipher) (6 * l.count) start ≡ l.initial.first ∷ l.initial.words
      → tw_steps (g.C.BlockCipherEncrypt.encrypted l.cipher) l.left start ≡ l.first ∷ turned l.words (l.left % l.count);
}

abbrev pub decreases-steps : goal.decreases-steps
decreases-steps g l = l.left
