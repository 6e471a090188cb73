-- Optional blocks that are filled end at a multiple of eight characters.
use Rattle.std.proofs.Common.{◌≡◌, ◌≢◌, ℕ, zero, suc, ◌-◌, ◌%◌, ◌⊎◌, inl, inr, List, [], ◌∷◌, refl, ap, arith}
use Rattle.std.specs.Prelude.{◌==◌, if◌then◌else◌, replicate, codes}
use Rattle.des_key_blocks.specs.OptionalBlocks.{size_of_all, filling, filled}
use Rattle.des_key_blocks.proofs.OptionalBlockSizes.{size_of_all-append, size-filled}

zero-or-some : (n : ℕ) → (n ≡ 0) ⊎ (n ≢ 0)
zero-or-some zero = inl refl
zero-or-some (suc n) = inr (λ none. omega arith)

pub filling-none : (size : ℕ) → size % 8 ≡ 0 → filling size ≡ []
filling-none size is =
    ap (λ n. if n == 0 then [] else (codes "PB", replicate ((12 - n) % 8) 48) ∷ []) is

pub filled-whole : (blocks : List (List ℕ × List ℕ)) → size_of_all (filled blocks) % 8 ≡ 0
unfolding size_of_all
filled-whole blocks =
    let size : ℕ = size_of_all blocks in
    elim (zero-or-some (size % 8)) [
      | inl none ↦
          let last : size_of_all (filling size) ≡ 0 = ap size_of_all (filling-none size none) in
          omega (arith, size_of_all-append blocks (filling size))
      | inr some ↦ omega (arith, size-filled blocks some)
    ]
