-- Lists that are written part after part.
use Rattle.std.proofs.Common.{◌≡◌, ℕ, ◌+◌, List, ◌++◌, length, take, drop, ap, ap₂, sym, ◌∙◌, append_assoc, take_at, drop_at}
use Rattle.std.proofs.lemmas.List.{drop-drop}

module _ {A : Type 0} (m : ℕ) (front old now : List A) (size : length front ≡ m) (so_far : now ≡ front ++ drop m old) where
  -- what is not written is as it was
  pub behind : drop m now ≡ drop m old
  behind = ap (drop m) so_far ∙ drop_at front (drop m old) m size

  -- a list of which the first m are written, and then the next n
  pub written-more : (n : ℕ) (part all : List A) → front ++ part ≡ all
      → take m now ++ (part ++ drop n (drop m now)) ≡ all ++ drop (m + n) old
  written-more n part all joins =
      ap₂ (λ (first rest : List A). first ++ (part ++ rest))
      (ap (take m) so_far ∙ take_at front (drop m old) m size) (ap (drop n) behind ∙ drop-drop n m old)
      ∙ sym (append_assoc front part (drop (m + n) old))
      ∙ ap (λ (written : List A). written ++ drop (m + n) old) joins
