-- Tags that are cut.
use Rattle.std.specs.Prelude.{◌≡◌, ℕ, ◌≤◌, List, length, take}

-- the first bytes of a tag, four at least and all eight at most
abbrev pub IsTruncated : List ℕ → List ℕ → Type 0
IsTruncated tag whole =
    (4 ≤ length tag) × (length tag ≤ 8) × (tag ≡ take (length tag) whole)
