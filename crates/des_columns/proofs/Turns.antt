-- Answers that stand one after another: those of the next value, and those behind them.
use Rattle.std.proofs.Common.{◌≡◌, ℕ, zero, suc, ◌+◌, ◌-◌, ◌≤◌, ◌<◌, List, [], ◌∷◌, ◌++◌, length, take, drop, map, get_or, sum, ap, sym, ◌∙◌, subst, arith, add-one, append_assoc, length-append}
use Rattle.std.specs.List.{flat_map, sum_by}
use Rattle.std.proofs.lemmas.List.{drop-append-le, drop-drop, drop_at, length-drop, length-take-le, take-append-le, take_all, take_at}
use Rattle.std.proofs.lemmas.List.Sums.{sum_by-cons}
use Rattle.des_fast.specs.Records.{record_of}
use Rattle.des_columns.specs.Waiting.{AreInTurn, AreWaiting}
use Rattle.des_columns.specs.declared.waiting.Waiting.{Waiting}
use borrow.Rule.Slice.PartMut.{put_mid}

module _ (size : List ℕ → ℕ) (Answers : List ℕ → List (List ℕ) → Type 0) where
  in_turn-first : (count : ℕ) (value : List ℕ) (others blocks : List (List ℕ)) → 1 ≤ count
      → AreInTurn size Answers (take count (value ∷ others)) blocks
      → (size value ≤ length blocks) × Answers value (take (size value) blocks)
      × AreInTurn size Answers (take (count - 1) others) (drop (size value) blocks)
  in_turn-first zero value others blocks some in_turn = absurd (omega (arith, some))
  in_turn-first (suc count) value others blocks some in_turn =
      let rest : suc count - 1 ≡ count = omega arith in rw rest in_turn

  module _ (value : List ℕ) (others : List (List ℕ)) (waiting : Waiting) (buffer : List (List ℕ)) (some : 1 ≤ waiting.count)
      (are : AreWaiting size Answers (value ∷ others) waiting buffer) (n : ℕ) (is : n ≡ size value) where
    pub next-waits : (waiting.first + n ≤ length buffer) × Answers value (take n (drop waiting.first buffer))
    next-waits =
        let first = in_turn-first waiting.count value others (drop waiting.first buffer) some are.in_turn in
        (omega (arith, first.0, length-drop waiting.first buffer, are.within, is), rw is first.1)

    pub others-wait : (after : List (List ℕ)) → length after ≡ length buffer
        → drop (waiting.first + n) after ≡ drop (waiting.first + n) buffer
        → AreWaiting size Answers others (record { count = waiting.count - 1; first = waiting.first + n }) after
    others-wait after long same = record {
      fit = omega (arith, are.fit, some);
      within = omega (arith, next-waits.0, long);
      in_turn =
          subst (λ (l : List (List ℕ)). AreInTurn size Answers (take (waiting.count - 1) others) l)
          (ap (λ m. drop m (drop waiting.first buffer)) (sym is) ∙ drop-drop n waiting.first buffer ∙ sym same)
          (in_turn-first waiting.count value others (drop waiting.first buffer) some are.in_turn).2;
    }

  -- and of one more
  pub in_turn-more : (values : List (List ℕ)) (value : List ℕ) (blocks more : List (List ℕ)) → length blocks ≡ sum_by size values
      → AreInTurn size Answers values blocks → length more ≡ size value → Answers value more
      → AreInTurn size Answers (values ++ value ∷ []) (blocks ++ more)
  in_turn-more [] value [] more whole in_turn long is = (
    omega (arith, long),
    subst (Answers value) (sym (take_all (size value) more (omega (arith, long)))) is,
    tt,
  )
  in_turn-more [] value (block ∷ blocks) more whole in_turn long is = absurd (omega (arith, whole))
  in_turn-more (first ∷ values) value blocks more whole in_turn long is =
      let rest : length (drop (size first) blocks) ≡ sum_by size values =
      omega (arith, whole, sum_by-cons size first values, length-drop (size first) blocks) in (
        omega (arith, in_turn.0, length-append blocks more),
        subst (Answers first) (sym (take-append-le (size first) blocks more in_turn.0)) in_turn.1,
        subst (AreInTurn size Answers (values ++ value ∷ [])) (sym (drop-append-le (size first) blocks more in_turn.0))
            (in_turn-more values value (drop (size first) blocks) more rest in_turn.2 long is),
      )

  -- whatever stands behind them
  pub in_turn-longer : (values blocks rest : List (List ℕ)) → AreInTurn size Answers values blocks
      → AreInTurn size Answers values (blocks ++ rest)
  in_turn-longer [] blocks rest in_turn = tt
  in_turn-longer (value ∷ values) blocks rest in_turn = (
    omega (arith, in_turn.0, length-append blocks rest),
    subst (Answers value) (sym (take-append-le (size value) blocks rest in_turn.0)) in_turn.1,
    subst (AreInTurn size Answers values) (sym (drop-append-le (size value) blocks rest in_turn.0))
        (in_turn-longer values (drop (size value) blocks) rest in_turn.2),
  )

-- what a function makes of values stands in turn
pub in_turn-made : (size : List ℕ → ℕ) (made : List ℕ → List (List ℕ)) (values blocks rest : List (List ℕ))
    → ((value : List ℕ) → size value ≡ length (made value)) → blocks ≡ flat_map made values ++ rest
    → AreInTurn size (λ value answers. answers ≡ made value) values blocks
in_turn-made size made [] blocks rest sized is = tt
in_turn-made size made (value ∷ values) blocks rest sized is =
    let behind : List (List ℕ) = flat_map made values ++ rest in
    let all : blocks ≡ made value ++ behind = is ∙ append_assoc (made value) (flat_map made values) rest in (
      omega (arith, ap length all, length-append (made value) behind, sized value),
      ap (take (size value)) all ∙ take_at (made value) behind (size value) (sym (sized value)),
      in_turn-made size made values (drop (size value) blocks) rest sized
          (ap (drop (size value)) all ∙ drop_at (made value) behind (size value) (sym (sized value))),
    )

-- what is related to each of some records stands in turn
pub in_turn-related : (size : List ℕ → ℕ) (P Q : List ℕ → List (List ℕ) → Type 0) (R : List (List ℕ) → List (List ℕ) → Type 0)
    (values p q : List (List ℕ)) → ((value : List ℕ) (x y : List (List ℕ)) → P value x → R x y → Q value y)
    → AreInTurn size P values p → length q ≡ length p
    → ((k : ℕ) → k < length values → R (record_of (map size values) p k) (record_of (map size values) q k))
    → AreInTurn size Q values q
in_turn-related size P Q R [] p q gives in_turn long related = tt
in_turn-related size P Q R (value ∷ values) p q gives in_turn long related =
    let n : ℕ = size value in
    let next : (blocks : List (List ℕ)) (k : ℕ)
    → record_of (map size (value ∷ values)) blocks (k + 1) ≡ record_of (map size values) (drop n blocks) k =
    λ blocks k. rw add-one (ap (λ m. take (get_or (map size values) k 0) (drop m blocks))
    (sum_by-cons (λ m. m) n (take k (map size values)))
    ∙ ap (take (get_or (map size values) k 0)) (sym (drop-drop (sum (take k (map size values))) n blocks))) in (
      omega (arith, in_turn.0, long),
      gives value (take n p) (take n q) in_turn.1 (related 0 (omega arith)),
      in_turn-related size P Q R values (drop n p) (drop n q) gives in_turn.2
          (omega (arith, length-drop n p, length-drop n q, long))
          (λ k below. rw (next p k, next q k) at (related (k + 1) (omega (arith, below)))),
    )

-- what is written in the midst of a list leaves it as long
pub length-put : {X : Type 0} (at size : ℕ) (xs ys : List X) → at + size ≤ length xs → length ys ≡ size
    → length (put_mid at size xs ys) ≡ length xs
length-put at size xs ys within long =
    let post = drop size (drop at xs) in
    omega (
      arith,
      length-append (take at xs) (ys ++ post),
      length-append ys post,
      length-take-le at xs (omega (arith, within)),
      length-drop size (drop at xs),
      length-drop at xs,
      within,
      long,
    )
