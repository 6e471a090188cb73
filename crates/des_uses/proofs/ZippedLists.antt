-- A list under keys, place by place.
use Rattle.std.proofs.Common.{◌≡◌, ℕ, ◌<◌, List, [], length, get_or, ap, ◌∙◌, arith}
use Rattle.std.specs.Simd.Lanes.{zip2}
use Rattle.std.proofs.lemmas.Simd.{get_or-zip2}

pub get_or-zipped : (f : List ℕ → List ℕ → List ℕ) (keys old new : List (List ℕ)) (k : ℕ) → length keys ≡ length old
    → new ≡ zip2 f keys old → k < length old → get_or new k [] ≡ f (get_or keys k []) (get_or old k [])
get_or-zipped f keys old new k same is below =
    ap (λ (xs : List (List ℕ)). get_or xs k []) is ∙ get_or-zip2 f keys old k [] [] [] (omega arith) below
