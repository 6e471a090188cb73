-- The words of some blocks and of others beside them.
use Rattle.std.proofs.Common.{◌≡◌, ℕ, ◌+◌, ◌-◌, ◌<◌, cond, ap, ◌∙◌, arith}
use Rattle.std.proofs.lemmas.Bool.{lt-ltb, le-ltb}
use Rattle.des_fast.specs.declared.beside.Beside.{Beside}
use Rattle.des_fast.specs.Beside.{word_beside}

pub word_beside-first : {A B : Type 0} (m : ℕ) (first : ℕ → A → ℕ) (second : ℕ → B → ℕ) (b : ℕ) (groups : Beside A B)
    → b < m → word_beside m first second b groups ≡ first b groups.first
word_beside-first m first second b groups low =
    ap (λ is_low. cond is_low (first b groups.first) (second (b - m) groups.second)) (lt-ltb b m low)

pub word_beside-second : {A B : Type 0} (m : ℕ) (first : ℕ → A → ℕ) (second : ℕ → B → ℕ) (b : ℕ) (groups : Beside A B)
    → word_beside m first second (m + b) groups ≡ second b groups.second
word_beside-second m first second b groups =
    let at : m + b - m ≡ b = omega arith in
    ap (λ is_low. cond is_low (first (m + b) groups.first) (second (m + b - m) groups.second))
    (le-ltb (m + b) m (omega arith))
    ∙ ap (λ (k : ℕ). second k groups.second) at
