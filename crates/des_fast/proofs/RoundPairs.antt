-- Rounds taken two at a time.
use Rattle.std.proofs.Common.{◌≡◌, ℕ, ◌+◌, ◌*◌, ◌<◌, List, [], ◌∷◌, ◌++◌, Bool, length, take, slice_index_or, ap, ap₂, sym, ◌∙◌, arith}
use Rattle.std.proofs.lemmas.List.{append_assoc, take_more}
use Rattle.des.specs.Rounds.{after_rounds}
use Rattle.des.specs.Laws.RoundsUndone.{next_half, after_rounds-append}

-- two elements more
take-two_more : {X : Type 0} (xs : List X) (n : ℕ) (d : X) → n + 1 < length xs
    → take (n + 1 + 1) xs ≡ take n xs ++ (slice_index_or xs n d ∷ slice_index_or xs (n + 1) d ∷ [])
take-two_more xs n d below =
    take_more xs (n + 1) d below
    ∙ ap (λ front. front ++ slice_index_or xs (n + 1) d ∷ []) (take_more xs n d (omega arith))
    ∙ append_assoc (take n xs) (slice_index_or xs n d ∷ []) (slice_index_or xs (n + 1) d ∷ [])

-- the halves after two rounds more, where each round replaces the half that it makes
pub after_rounds-two_more : (keys : List (List Bool)) (i : ℕ) (first second left right next_left next_right : List Bool)
    → 2 * i + 1 < length keys
    → (left, right) ≡ after_rounds (take (2 * i) keys) first second
    → next_left ≡ next_half left right (slice_index_or keys (2 * i) [])
    → next_right ≡ next_half right next_left (slice_index_or keys (2 * i + 1) [])
    → (next_left, next_right) ≡ after_rounds (take (2 * (i + 1)) keys) first second
unfolding after_rounds
after_rounds-two_more keys i first second left right next_left next_right below so_far makes_left makes_right =
    let k1 : List Bool = slice_index_or keys (2 * i) [] in
    let k2 : List Bool = slice_index_or keys (2 * i + 1) [] in
    let count : 2 * (i + 1) ≡ 2 * i + 1 + 1 = omega arith in
    ap₂ (λ (l r : List Bool). (l, r)) makes_left (makes_right ∙ ap (λ l. next_half right l k2) makes_left)
    ∙ ap (λ (h : List Bool × List Bool). after_rounds (k1 ∷ k2 ∷ []) h.0 h.1) so_far
    ∙ sym (after_rounds-append (take (2 * i) keys) (k1 ∷ k2 ∷ []) first second)
    ∙ ap (λ ks. after_rounds ks first second) (sym (ap (λ n. take n keys) count ∙ take-two_more keys (2 * i) [] below))
