-- What holds of two values holds of one that is either.
use Rattle.std.proofs.Common.{◌≡◌, ◌⊎◌, inl, inr, sym, subst}

pub of-either : {A : Type 0} {one other x : A} (P : A → Type 0) → (x ≡ one) ⊎ (x ≡ other) → P one → P other → P x
of-either P (inl is) first second = subst P (sym is) first
of-either P (inr is) first second = subst P (sym is) second
