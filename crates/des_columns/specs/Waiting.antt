-- Values whose blocks go through the cipher together: the answers of the next ones wait in a buffer.
use Rattle.std.specs.Prelude.{ℕ, ◌≤◌, List, [], ◌∷◌, length, take, drop}
use Rattle.des_columns.specs.declared.waiting.Waiting.{Waiting}

-- the answers of values, which have `size` blocks each, stand one after another in a list of blocks
abbrev pub AreInTurn : (List ℕ → ℕ) → (List ℕ → List (List ℕ) → Type 0) → List (List ℕ) → List (List ℕ) → Type 0
AreInTurn size Answers [] blocks = Unit {0}
AreInTurn size Answers (value ∷ values) blocks =
    (size value ≤ length blocks) × Answers value (take (size value) blocks)
    × AreInTurn size Answers values (drop (size value) blocks)

-- those of the first values stand in a buffer
pub record AreWaiting (size : List ℕ → ℕ) (Answers : List ℕ → List (List ℕ) → Type 0) (values : List (List ℕ))
    (waiting : Waiting) (buffer : List (List ℕ)) : Type 0 where
  pub fit : waiting.count ≤ length values
  pub within : waiting.first ≤ length buffer
  pub in_turn : AreInTurn size Answers (take waiting.count values) (drop waiting.first buffer)
