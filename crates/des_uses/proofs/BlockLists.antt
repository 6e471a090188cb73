-- Two functions that make the same of each block of a list.
use Rattle.std.proofs.Common.{◌≡◌, ℕ, List, [], ◌∷◌, map, refl, suc, arith}
use Rattle.std.specs.List.{All}
use Rattle.des.specs.Blocks.{IsBlock}

-- they make one list of a list of blocks
pub map-alike : (f g : List ℕ → List ℕ) (blocks : List (List ℕ))
    → ((block : List ℕ) → IsBlock block → f block ≡ g block)
    → All IsBlock blocks → map f blocks ≡ map g blocks
map-alike f g [] alike are_blocks = refl
map-alike f g (block ∷ blocks) alike are_blocks =
    λ i. alike block (are_blocks 0 block (omega arith)) i
    ∷ map-alike f g blocks alike (λ k d within. are_blocks (suc k) d (omega arith)) i
