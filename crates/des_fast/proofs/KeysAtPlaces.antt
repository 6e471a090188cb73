-- The answers of a part of a list of keys, at its places.
use Rattle.std.proofs.Common.{◌≡◌, ℕ, ◌+◌, ◌<◌, List, [], map, take, drop, get_or, ap, sym, ◌∙◌}
use Rattle.std.proofs.lemmas.List.{take-map, drop-map, get_or-take, get_or-drop}
use Rattle.des_fast.specs.ChainingValues.{under_key}

-- of the first n keys
pub under_key-first : {K : Type 0} (bytes : K → List ℕ) (f : List ℕ → List ℕ → List ℕ) (keys : List K) (n j : ℕ)
    → j < n → under_key f (map bytes (take n keys)) j ≡ under_key f (map bytes keys) j
under_key-first bytes f keys n j below =
    ap f (ap (λ (ks : List (List ℕ)). get_or ks j []) (sym (take-map bytes n keys))
    ∙ get_or-take n (map bytes keys) j [] below)

-- of n keys from place m on
pub under_key-part : {K : Type 0} (bytes : K → List ℕ) (f : List ℕ → List ℕ → List ℕ) (keys : List K) (m n j : ℕ)
    → j < n → under_key f (map bytes (take n (drop m keys))) j ≡ under_key f (map bytes keys) (m + j)
under_key-part bytes f keys m n j below =
    under_key-first bytes f (drop m keys) n j below
    ∙ ap f (ap (λ (ks : List (List ℕ)). get_or ks j []) (sym (drop-map bytes m keys))
    ∙ get_or-drop m (map bytes keys) j [])
