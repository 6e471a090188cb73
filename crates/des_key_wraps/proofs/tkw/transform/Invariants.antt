-- So many steps are done.
use Rattle.std.proofs.Common.{◌≡◌, ◌%◌, ◌∷◌}
use Rattle.des_key_wraps.specs.Tkw.{tw_steps}
use Rattle.des_key_wraps.proofs.TkwSteps.{turned}
use Rattle.des_key_wraps.proofs.tkw.transform.Given as goal

abbrev pub invariant-steps : goal.invariant-steps
invariant-steps g l =
    tw_steps (g.C.BlockCipherEncrypt.encrypted l.cipher) l.t (l.initial.first ∷ l.initial.words)
    ≡ l.first ∷ turned l.words (l.t % l.count)
