-- The words of some blocks beside others.
use Rattle.std.specs.Prelude.{ℕ, ◌-◌, cond, ltb}
use Rattle.des_fast.specs.declared.beside.Beside.{Beside}

-- the word of block b, from 0: of the first m, or of those after them
abbrev pub word_beside : {A B : Type 0} → ℕ → (ℕ → A → ℕ) → (ℕ → B → ℕ) → ℕ → Beside A B → ℕ
word_beside m first second b groups = cond (ltb b m) (first b groups.first) (second (b - m) groups.second)
