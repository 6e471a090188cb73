-- Words that hold the round keys of a key, from the last to the first, if these are those of another key.
use Rattle.std.proofs.Common.{◌≡◌, ℕ, ◌-◌, ◌≤◌, List, ◌∷◌, [], ◌++◌, Bool, map, reverse, sym, ap, ◌∙◌, lit≤}
use Rattle.des.specs.Bits.{bits_of_word, zeros}
use Rattle.des.specs.KeySchedule.{round_key, key_schedule}
use Rattle.des.specs.RoundKeyWords.{HoldRoundKeys}
use Rattle.des.proofs.ReversedLists.{map-reverse}

-- each round key of the one is that of the other with the number from the end, so the lists are each other reversed
key_schedule-reversed : (key partner : List Bool)
    → ((i : ℕ) → 1 ≤ i → i ≤ 16 → round_key partner i ≡ round_key key (17 - i))
    → reverse (key_schedule key) ≡ key_schedule partner
unfolding key_schedule
key_schedule-reversed key partner each =
    let at : (i : ℕ) → 1 ≤ i → i ≤ 16 → round_key key (17 - i) ≡ round_key partner i =
    λ i from to. sym (each i from to) in
    λ t.
    at 1 (lit≤ tt) (lit≤ tt) t ∷ at 2 (lit≤ tt) (lit≤ tt) t ∷ at 3 (lit≤ tt) (lit≤ tt) t ∷ at 4 (lit≤ tt) (lit≤ tt) t ∷
    at 5 (lit≤ tt) (lit≤ tt) t ∷ at 6 (lit≤ tt) (lit≤ tt) t ∷ at 7 (lit≤ tt) (lit≤ tt) t ∷ at 8 (lit≤ tt) (lit≤ tt) t ∷
    at 9 (lit≤ tt) (lit≤ tt) t ∷ at 10 (lit≤ tt) (lit≤ tt) t ∷
    at 11 (lit≤ tt) (lit≤ tt) t ∷ at 12 (lit≤ tt) (lit≤ tt) t ∷
    at 13 (lit≤ tt) (lit≤ tt) t ∷ at 14 (lit≤ tt) (lit≤ tt) t ∷
    at 15 (lit≤ tt) (lit≤ tt) t ∷ at 16 (lit≤ tt) (lit≤ tt) t ∷ []

-- words that hold those of the one, reversed, hold those of the other
pub HoldRoundKeys-reversed : (words : List ℕ) (key partner : List Bool)
    → ((i : ℕ) → 1 ≤ i → i ≤ 16 → round_key partner i ≡ round_key key (17 - i))
    → HoldRoundKeys words key → HoldRoundKeys (reverse words) partner
HoldRoundKeys-reversed words key partner each kept =
    let padded : List Bool → List Bool = λ round_key. round_key ++ zeros 16 in
    map-reverse bits_of_word words
    ∙ ap reverse kept
    ∙ sym (map-reverse padded (key_schedule key))
    ∙ ap (map padded) (key_schedule-reversed key partner each)
