-- Blocks under their keys: all of some under one, and those of each value under its own.
use Rattle.std.proofs.Common.{◌≡◌, ℕ, suc, List, [], ◌∷◌, ◌++◌, length, map, replicate, refl, ap₂, ◌∙◌, arith}
use Rattle.std.specs.List.{All, flat_map}
use Rattle.std.specs.Simd.Lanes.{zip2}
use Rattle.std.proofs.lemmas.List.{length-replicate}
use Rattle.std.proofs.lemmas.Simd.{zip2_splat_left}
use Rattle.des.specs.Blocks.{IsBlock}
use Rattle.des_fast.proofs.SliceBits.{zip2-append}

-- two functions that answer blocks alike answer lists of blocks alike
pub mapped-alike : (f h : List ℕ → List ℕ) (blocks : List (List ℕ)) → All IsBlock blocks
    → ((block : List ℕ) → IsBlock block → f block ≡ h block) → map f blocks ≡ map h blocks
mapped-alike f h [] are alike = refl
mapped-alike f h (block ∷ blocks) are alike =
    ap₂ ◌∷◌ (alike block (are 0 [] (omega arith)))
    (mapped-alike f h blocks (λ k d below. are (suc k) d (omega (arith, below))) alike)

-- the key of each block of values
abbrev pub keys_of : (List ℕ → List ℕ) → (List ℕ → List (List ℕ)) → List (List ℕ) → List (List ℕ)
keys_of key blocks values = flat_map (λ value. replicate (length (blocks value)) (key value)) values

pub zip2-keys : (f : List ℕ → List ℕ → List ℕ) (key : List ℕ → List ℕ) (blocks : List ℕ → List (List ℕ))
    (values : List (List ℕ))
    → zip2 f (keys_of key blocks values) (flat_map blocks values) ≡ flat_map (λ value. map (f (key value)) (blocks value)) values
zip2-keys f key blocks [] = refl
zip2-keys f key blocks (value ∷ values) =
    zip2-append f (replicate (length (blocks value)) (key value)) (keys_of key blocks values) (blocks value)
    (flat_map blocks values) (length-replicate (length (blocks value)) (key value))
    ∙ ap₂ ◌++◌ (zip2_splat_left f (key value) (length (blocks value)) (blocks value) refl) (zip2-keys f key blocks values)
