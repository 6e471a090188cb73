-- Chaining in step: a block more of each, and the chains of a group more.
use Rattle.std.proofs.Common.{◌≡◌, ℕ, ◌+◌, ◌-◌, ◌<◌, ◌≤◌, List, [], length, take, drop, get_or, min, ap, sym, ◌∙◌, arith, inl, inr, add-one, length-take-le}
use Rattle.std.proofs.lemmas.Bool.{cases_lt}
use Rattle.std.proofs.lemmas.List.{length-drop, get_or-take, get_or-drop, get_or_append_left, get_or-append_right}
use Rattle.std.proofs.lemmas.Slice.{drop-put_mid}
use borrow.Rule.Slice.PartMut.{put_mid}
use Rattle.des.specs.Cbc.{xor_blocks}
use Rattle.des_fast.specs.ChainingValues.{chain_from, AreChainingValues}

-- a chain through no block, and through one more
pub chain_from-none : (f : List ℕ → List ℕ) (first : List ℕ) (block_of : ℕ → List ℕ) (n : ℕ) → n ≡ 0
    → chain_from f first block_of n ≡ first
unfolding chain_from
chain_from-none f first block_of n none = ap (chain_from f first block_of) none

pub chain_from-more : (f : List ℕ → List ℕ) (first : List ℕ) (block_of : ℕ → List ℕ) (n m : ℕ) → m ≡ n + 1
    → chain_from f first block_of m ≡ f (xor_blocks (block_of n) (chain_from f first block_of n))
unfolding chain_from
chain_from-more f first block_of n m is = ap (chain_from f first block_of) (is ∙ add-one n)

-- the chains after a step more
pub AreChainingValues-more : (f : ℕ → List ℕ → List ℕ) (block_of : ℕ → ℕ → List ℕ) (count_of : ℕ → ℕ)
    (firsts now added answers next : List (List ℕ)) (i batch : ℕ) → length firsts ≤ batch
    → AreChainingValues f block_of (λ k. min i (count_of k)) firsts now
    → ((k : ℕ) → k < length firsts → i < count_of k
    → get_or added k [] ≡ xor_blocks (block_of k i) (get_or now k []))
    → ((k : ℕ) → k < batch → get_or answers k [] ≡ f k (get_or added k []))
    → ((k : ℕ) → k < length firsts → i < count_of k → get_or next k [] ≡ get_or answers k [])
    → ((k : ℕ) → k < length firsts → count_of k ≤ i → get_or next k [] ≡ get_or now k [])
    → AreChainingValues f block_of (λ k. min (i + 1) (count_of k)) firsts next
AreChainingValues-more f block_of count_of firsts now added answers next i batch fits are xored answered gone_on ended k below =
    let first : List ℕ = get_or firsts k [] in
    elim (cases_lt i (count_of k)) [
      | inl more ↦
          let so_far : min i (count_of k) ≡ i = omega arith in
          gone_on k below more
          ∙ answered k (omega arith)
          ∙ ap (f k) (xored k below more ∙ ap (xor_blocks (block_of k i))
          (are k below ∙ ap (chain_from (f k) first (block_of k)) so_far))
          ∙ sym (chain_from-more (f k) first (block_of k) i (min (i + 1) (count_of k)) (omega arith))
      | inr all ↦
          let same : min i (count_of k) ≡ min (i + 1) (count_of k) = omega arith in
          ended k below all ∙ are k below ∙ ap (chain_from (f k) first (block_of k)) same
    ]

-- ---- an element of a list with a part of it written

pub get_or-put_below : (m w : ℕ) (xs ys : List (List ℕ)) (i : ℕ) → i < m → m ≤ length xs
    → get_or (put_mid m w xs ys) i [] ≡ get_or xs i []
get_or-put_below m w xs ys i low within =
    get_or_append_left (take m xs) _ [] i (omega (arith, length-take-le m xs within))
    ∙ get_or-take m xs i [] low

pub get_or-put_in : (m w : ℕ) (xs ys : List (List ℕ)) (i : ℕ) → i < length ys → m ≤ length xs
    → get_or (put_mid m w xs ys) (m + i) [] ≡ get_or ys i []
get_or-put_in m w xs ys i low within =
    let at : m + i - m ≡ i = omega arith in
    get_or-append_right (take m xs) _ m (m + i) [] (length-take-le m xs within) (omega arith)
    ∙ get_or_append_left ys _ [] (m + i - m) (omega arith)
    ∙ ap (λ (n : ℕ). get_or ys n []) at

pub get_or-put_past : (m w : ℕ) (xs ys : List (List ℕ)) (i : ℕ) → m + w ≤ i → m ≤ length xs → length ys ≡ w
    → get_or (put_mid m w xs ys) i [] ≡ get_or xs i []
get_or-put_past m w xs ys i past within size =
    let at : m + w + (i - (m + w)) ≡ i = omega arith in
    ap (λ (n : ℕ). get_or (put_mid m w xs ys) n []) (sym at)
    ∙ sym (get_or-drop (m + w) (put_mid m w xs ys) (i - (m + w)) [])
    ∙ ap (λ (zs : List (List ℕ)). get_or zs (i - (m + w)) [])
    (drop-put_mid m w xs ys (m + w) (omega arith) within size)
    ∙ get_or-drop (m + w) xs (i - (m + w)) []
    ∙ ap (λ (n : ℕ). get_or xs n []) at

-- the chains after a group more, whose encryptions are those from place m on
pub AreChainingValues-group : (f part_f : ℕ → List ℕ → List ℕ) (block_of : ℕ → ℕ → List ℕ) (count_of : ℕ → ℕ) (m n w : ℕ)
    (firsts now part : List (List ℕ)) → m + n ≤ length firsts → length now ≡ length firsts → w ≡ n
    → length part ≡ n → ((j : ℕ) → j < n → part_f j ≡ f (m + j))
    → AreChainingValues f block_of count_of (take m firsts) now
    → ((k : ℕ) → m ≤ k → get_or now k [] ≡ get_or firsts k [])
    → AreChainingValues part_f (λ k. block_of (m + k)) (λ k. count_of (m + k)) (take w (drop m now)) part
    → AreChainingValues f block_of count_of (take (m + n) firsts) (put_mid m w now part)
AreChainingValues-group f part_f block_of count_of m n w firsts now part there same is count keyed made rest ends k below =
    let in_firsts : length (take (m + n) firsts) ≡ m + n = length-take-le (m + n) firsts there in
    let in_before : length (take m firsts) ≡ m = length-take-le m firsts (omega arith) in
    let from_first : (first : List ℕ) → first ≡ get_or firsts k []
    → chain_from (f k) first (block_of k) (count_of k)
    ≡ chain_from (f k) (get_or (take (m + n) firsts) k []) (block_of k) (count_of k) =
    λ first at.
    ap (λ (x : List ℕ). chain_from (f k) x (block_of k) (count_of k))
    (at ∙ sym (get_or-take (m + n) firsts k [] (omega arith))) in
    elim (cases_lt k m) [
      | inl low ↦
          get_or-put_below m w now part k low (omega arith)
          ∙ made k (omega arith)
          ∙ from_first _ (get_or-take m firsts k [] low)
      | inr from ↦
          let j : ℕ = k - m in
          let at : m + j ≡ k = omega arith in
          let inside : j < w = omega arith in
          let in_rest : length (take w (drop m now)) ≡ w =
          length-take-le w (drop m now) (omega (arith, length-drop m now)) in
          ap (λ (i : ℕ). get_or (put_mid m w now part) i []) (sym at)
          ∙ get_or-put_in m w now part j (omega arith) (omega arith)
          ∙ ends j (omega arith)
          ∙ ap (λ (g : List ℕ → List ℕ).
          chain_from g (get_or (take w (drop m now)) j []) (block_of (m + j)) (count_of (m + j)))
          (keyed j (omega arith))
          ∙ ap (λ (i : ℕ). chain_from (f i) (get_or (take w (drop m now)) j []) (block_of i) (count_of i)) at
          ∙ from_first _ (get_or-take w (drop m now) j [] inside ∙ get_or-drop m now j []
          ∙ ap (λ (i : ℕ). get_or now i []) at ∙ rest k from)
    ]
