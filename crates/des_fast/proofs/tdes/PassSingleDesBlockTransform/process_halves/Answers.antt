use Rattle.std.proofs.Common.{ℕ, List, Bool, refl, ap, ◌∙◌}
use Rattle.des_fast.specs.SideBySide.{keys_of}
use Rattle.des_fast.proofs.HalfPasses.{after, block_by_keys-one}
use Rattle.des_fast.proofs.PassDirections.{passed_by-keys}
use Rattle.des_fast.proofs.tdes.PassSingleDesBlockTransform.process_halves.Goals as goal

pub returns-clause-output : goal.returns-clause-output
returns-clause-output g c b within block starts =
    let keys : List (List Bool) = keys_of c.args.self.now in
    block_by_keys-one keys block _ _ (c.after_rounds.ensures.halves b within ∙ ap (after keys) starts) refl
    ∙ ap (λ (f : List ℕ → List ℕ). f block) (passed_by-keys c.args.self.now)
