-- The digests of EVP_BytesToKey, one more.
use Rattle.std.proofs.Common.{◌≡◌, refl, ap, sym, ◌∙◌, add-one, ℕ, ◌+◌, List, [], ◌++◌}
use Rattle.des_passwords.specs.BytesToKey.{repeated, d, ds}

pub d-none : (digest : List ℕ → List ℕ) (count : ℕ) (password salt : List ℕ) → d digest count password salt 0 ≡ []
unfolding d
d-none digest count password salt = refl

pub d-next : (digest : List ℕ → List ℕ) (count : ℕ) (password salt : List ℕ) (n : ℕ)
    → d digest count password salt (n + 1)
    ≡ repeated digest count (d digest count password salt n ++ password ++ salt)
unfolding d
d-next digest count password salt n = ap (d digest count password salt) (add-one n)

pub ds-none : (digest : List ℕ → List ℕ) (count : ℕ) (password salt : List ℕ) → ds digest count password salt 0 ≡ []
unfolding ds
ds-none digest count password salt = refl

pub ds-next : (digest : List ℕ → List ℕ) (count : ℕ) (password salt : List ℕ) (n : ℕ)
    → ds digest count password salt (n + 1) ≡ ds digest count password salt n ++ d digest count password salt (n + 1)
unfolding ds
ds-next digest count password salt n =
    ap (ds digest count password salt) (add-one n)
    ∙ sym (ap (λ m. ds digest count password salt n ++ d digest count password salt m) (add-one n))
