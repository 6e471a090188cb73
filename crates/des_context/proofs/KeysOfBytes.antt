-- Keys of one size in a list of bytes: what makes the same of each key of the size makes the same of them all.
use Rattle.std.proofs.Common.{◌≡◌, ℕ, zero, suc, ◌*◌, ◌/◌, ◌≤◌, List, [], ◌∷◌, length, take, drop, map, refl, ap₂, arith, length-take-le}
use Rattle.std.specs.Simd.{first_chunks}
use Rattle.std.specs.Simd.Lanes.{zip2}
use Rattle.std.proofs.Math.Nat.{div-mul-le_self}
use Rattle.std.proofs.lemmas.List.{length-drop}
use Rattle.des_context.specs.Keys.{keys_of}

module _ {A B : Type 0} (size : ℕ) (f g : List ℕ → A → B)
    (same : (key : List ℕ) → length key ≡ size → (x : A) → f key x ≡ g key x) where
  chunks-same : (n : ℕ) (bytes : List ℕ) (xs : List A) → n * size ≤ length bytes
      → zip2 f (first_chunks size n bytes) xs ≡ zip2 g (first_chunks size n bytes) xs
  chunks-same zero bytes xs fits = refl
  chunks-same (suc n) bytes [] fits = refl
  chunks-same (suc n) bytes (x ∷ xs) fits =
      ap₂ ◌∷◌ (same (take size bytes) (length-take-le size bytes (omega (arith, fits))) x)
      (chunks-same n (drop size bytes) xs (omega (arith, fits, length-drop size bytes)))

  pub zipped-same : (bytes : List ℕ) (xs : List A) → zip2 f (keys_of size bytes) xs ≡ zip2 g (keys_of size bytes) xs
  zipped-same bytes xs = chunks-same (length bytes / size) bytes xs (div-mul-le_self (length bytes) size)

module _ {A : Type 0} (size : ℕ) (f g : List ℕ → A) (same : (key : List ℕ) → length key ≡ size → f key ≡ g key) where
  mapped-chunks : (n : ℕ) (bytes : List ℕ) → n * size ≤ length bytes
      → map f (first_chunks size n bytes) ≡ map g (first_chunks size n bytes)
  mapped-chunks zero bytes fits = refl
  mapped-chunks (suc n) bytes fits =
      ap₂ ◌∷◌ (same (take size bytes) (length-take-le size bytes (omega (arith, fits))))
      (mapped-chunks n (drop size bytes) (omega (arith, fits, length-drop size bytes)))

  pub mapped-same : (bytes : List ℕ) → map f (keys_of size bytes) ≡ map g (keys_of size bytes)
  mapped-same bytes = mapped-chunks (length bytes / size) bytes (div-mul-le_self (length bytes) size)
