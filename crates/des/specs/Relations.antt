-- Relations between blocks, read from the first to the second or from the second to the first.
use Rattle.std.specs.Prelude.{◌≡◌, ◌↔◌, ℕ, List}
use Rattle.des.specs.Blocks.{IsBlock}

-- P holds of this, and of no other: if P is a relation at one end, of one block or list of blocks
abbrev pub IsTheOne : {A : Type 0} → (A → Type 0) → A → Type 0
IsTheOne {A} P it = P it × ((other : A) → P other → other ≡ it)

-- the relation takes each block to exactly one, and takes exactly one to each
pub record IsBijection (Answers : List ℕ → List ℕ → Type 0) : Type 0 where
  pub forwards : (x : List ℕ) → IsBlock x → (y : List ℕ) × IsTheOne (Answers x) y
  pub backwards : (y : List ℕ) → IsBlock y → (x : List ℕ) × IsTheOne (λ x. Answers x y) x

-- the function takes the block to the answer
abbrev pub TakesBlock : (List ℕ → List ℕ) → List ℕ → List ℕ → Type 0
TakesBlock function block answer = IsBlock block × (function block ≡ answer)

-- the relation takes a block to what the function answers to it, and relates nothing else
abbrev pub IsGraphOf : (List ℕ → List ℕ) → (List ℕ → List ℕ → Type 0) → Type 0
IsGraphOf function Answers = (x y : List ℕ) → Answers x y ↔ TakesBlock function x y

-- the relation is the graph of the first function, and read backwards that of the second
abbrev pub AreGraphsOf : (List ℕ → List ℕ) → (List ℕ → List ℕ) → (List ℕ → List ℕ → Type 0)
    → Type 0
AreGraphsOf forth back Answers = IsGraphOf forth Answers × IsGraphOf back (λ y x. Answers x y)

-- two functions answer each block alike
abbrev pub AgreeOnBlocks : (List ℕ → List ℕ) → (List ℕ → List ℕ) → Type 0
AgreeOnBlocks answer other_answer =
    (block : List ℕ) → IsBlock block → answer block ≡ other_answer block
