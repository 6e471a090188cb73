-- A key of eight bytes and the vector behind it, as they stand in what is derived.
use Rattle.std.proofs.Common.{◌≡◌, ◌∙◌, ap, sym, ℕ, List, ◌++◌, length, take, drop}
use Rattle.std.proofs.Math.Seq.{take-append_seam, drop-append_seam}

pub key_in : (key vector derived : List ℕ) → length key ≡ 8 → key ++ vector ≡ derived → key ≡ take 8 derived
key_in key vector derived long is =
    sym (take-append_seam key vector) ∙ ap (λ n. take n (key ++ vector)) long ∙ ap (take 8) is

pub vector_in : (key vector derived : List ℕ) → length key ≡ 8 → key ++ vector ≡ derived → vector ≡ drop 8 derived
vector_in key vector derived long is =
    sym (drop-append_seam key vector) ∙ ap (λ n. drop n (key ++ vector)) long ∙ ap (drop 8) is
