-- Texts as C keeps them.
use Rattle.std.specs.Prelude.{ℕ, ◌-◌, List, ◌++◌, length, replicate}

-- n bytes: a text, and then zeros, of which C takes the first for its end
abbrev pub with_zeros : ℕ → List ℕ → List ℕ
with_zeros n text = text ++ replicate (n - length text) 0
