-- The largest of some numbers.
use Rattle.std.specs.Prelude.{ℕ, ◌<◌, ◌≤◌}

-- a number is the largest of `f 0` to `f (count - 1)`, and 0 of none: the least that is at least each of them
pub record IsLargest (count : ℕ) (f : ℕ → ℕ) (largest : ℕ) : Type 0 where
  pub bound : (k : ℕ) → k < count → f k ≤ largest
  pub least : (n : ℕ) → ((k : ℕ) → k < count → f k ≤ n) → largest ≤ n
