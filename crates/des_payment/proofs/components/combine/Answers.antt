use Rattle.std.proofs.Common.{List, ℕ, ◌∷◌, map, sym, ap, ◌∙◌, subst, refl}
use Rattle.des.specs.WeakKeys.{IsRefused}
use Rattle.des_payment.specs.Components.{odd, xor_of}
use Rattle.des_payment.proofs.components.combine.Goals as goal

-- the key that is tested is the one that the components make
pub returns-in_err-weak_key_test-clause-refused : goal.returns-in_err-weak_key_test-clause-refused
returns-in_err-weak_key_test-clause-refused g c =
    let same = c.set_odd_parity.ensures
    ∙ ap (map odd) (c.sum_of-key.ensures ∙ ap (λ (sum : List ℕ). xor_of (sum ∷ c.args.others.now)) c.xored.ensures) in (
      λ fails. subst (λ (k : List ℕ). IsRefused k) same (c.in_err-weak_key_test.ensures.refused.0 refl),
      λ refused. c.from_residual.ensures.0,
    )

pub returns-clause-refused : goal.returns-clause-refused
returns-clause-refused g c =
    let same = c.set_odd_parity.ensures
    ∙ ap (map odd) (c.sum_of-key.ensures ∙ ap (λ (sum : List ℕ). xor_of (sum ∷ c.args.others.now)) c.xored.ensures) in (
      λ never. cc,
      λ refused. c.in_ok-weak_key_test.ensures.refused.1 (subst (λ (k : List ℕ). IsRefused k) (sym same) refused),
    )
