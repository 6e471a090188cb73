use Rattle.std.proofs.Common.{◌≡◌, ℕ, List, OnOk, ap, subst, ◌∙◌}
use Rattle.std.specs.Simd.Lanes.{zip2}
use Rattle.des_payment.specs.Dukpt.{initial_key, transaction_key}
use Rattle.des_payment.proofs.Lanes.{zipped-mapped}
use Rattle.des_payment.proofs.transaction_lists.transaction_keys_by.Goals as goal

-- the initial keys are derived
pub returns-clause-ok : goal.returns-clause-ok
returns-clause-ok g c =
    let serials : List (List ℕ) = c.args.serials.now in
    let f : List ℕ → List ℕ → List ℕ = λ serial key. transaction_key key serial in
    subst (λ (answers : List (List ℕ)). OnOk c.derive_keys_by.result (c.derive_keys_by.new.keys ≡ answers))
    (ap (zip2 f serials) c.in_ok-initial_keys_by.ensures.ok ∙ zipped-mapped f (initial_key c.args.base.now) serials)
    c.derive_keys_by.ensures.ok
