-- One record, answered block after block.
use Rattle.std.proofs.Common.{◌≡◌, ◌≢◌, ℕ, zero, suc, ◌+◌, ◌-◌, ◌<◌, ◌≤◌, List, [], ◌∷◌, length, take, drop, get_or, refl, ap, ap₂, sym, ◌∙◌, arith, inl, inr, add-one, length-take-le}
use Rattle.std.specs.List.{All}
use Rattle.std.proofs.lemmas.Bool.{cases_eq}
use Rattle.std.proofs.lemmas.List.{length-drop, get_or-take, get_or-drop}
use Rattle.des.specs.Blocks.{IsBlock}
use Rattle.des.specs.Cbc.{xor_blocks, next_vector, Cbc, CbcDecrypts}
use Rattle.des.proofs.ChainedPieces.{next_vector-last}
use Rattle.des_fast.specs.RecordStates.{chain_after, cipher_before, IsAnswered}

-- none of its blocks
pub IsAnswered-none : (link made : ℕ → List ℕ) (old : List (List ℕ)) (place size : ℕ) (vector : List ℕ)
    → vector ≡ link 0 → IsAnswered link made old old place size vector 0
IsAnswered-none link made old place size vector same = record {
  end = same;
  answered = λ j below. absurd (omega arith);
  left = λ j from low. refl;
}

-- it stays so if its blocks and its vector stay
pub IsAnswered-kept : (link made : ℕ → List ℕ) (old blocks new : List (List ℕ)) (place size : ℕ)
    (vector new_vector : List ℕ) (n : ℕ) → n ≤ size → new_vector ≡ vector
    → ((j : ℕ) → j < size → get_or new (place + j) [] ≡ get_or blocks (place + j) [])
    → IsAnswered link made old blocks place size vector n → IsAnswered link made old new place size new_vector n
IsAnswered-kept link made old blocks new place size vector new_vector n within same each is = record {
  end = same ∙ is.end;
  answered = λ j below. each j (omega arith) ∙ is.answered j below;
  left = λ j from low. each j low ∙ is.left j from low;
}

-- a block more
pub IsAnswered-more : (link made : ℕ → List ℕ) (old blocks new : List (List ℕ)) (place size : ℕ)
    (vector new_vector : List ℕ) (n : ℕ) → n < size → new_vector ≡ link (suc n) → get_or new (place + n) [] ≡ made n
    → ((j : ℕ) → j < size → j ≢ n → get_or new (place + j) [] ≡ get_or blocks (place + j) [])
    → IsAnswered link made old blocks place size vector n → IsAnswered link made old new place size new_vector (n + 1)
IsAnswered-more link made old blocks new place size vector new_vector n within end here each is = record {
  end = end ∙ ap link (sym (add-one n));
  answered = λ j below. elim (cases_eq j n) [
    | inl same ↦ ap (λ (m : ℕ). get_or new (place + m) []) same ∙ here ∙ ap made (sym same)
    | inr other ↦ each j (omega arith) other ∙ is.answered j (omega arith)
  ];
  left = λ j from low. each j low (λ same. omega arith) ∙ is.left j (omega arith) low;
}

-- ---- whole records

-- as many blocks as it has
length-record : (place size : ℕ) (blocks : List (List ℕ)) → place + size ≤ length blocks
    → length (take size (drop place blocks)) ≡ size
length-record place size blocks within =
    length-take-le size (drop place blocks) (omega (arith, length-drop place blocks))

-- its blocks
at-record : (place size : ℕ) (blocks : List (List ℕ)) (j : ℕ) → j < size
    → get_or (take size (drop place blocks)) j [] ≡ get_or blocks (place + j) []
at-record place size blocks j low = get_or-take size (drop place blocks) j [] low ∙ get_or-drop place blocks j []

-- the vector after a list of blocks that are links
next_vector-links : (link : ℕ → List ℕ) (vector end : List ℕ) (place size : ℕ) (q : List (List ℕ))
    → place + size ≤ length q → link 0 ≡ vector
    → ((j : ℕ) → j < size → get_or q (place + j) [] ≡ link (suc j)) → end ≡ link size
    → end ≡ next_vector vector (take size (drop place q))
next_vector-links link vector end place zero q within first each last = last ∙ first
next_vector-links link vector end place (suc m) q within first each last =
    last
    ∙ sym (each m (omega arith))
    ∙ sym (at-record place (suc m) q m (omega arith))
    ∙ sym (next_vector-last vector (take (suc m) (drop place q)) m
    (omega (arith, length-record place (suc m) q within)))

-- the block before one is the link to it
before-links : (link : ℕ → List ℕ) (vector : List ℕ) (place size m : ℕ) (q : List (List ℕ))
    → m ≤ size → link 0 ≡ vector → ((j : ℕ) → j < size → get_or q (place + j) [] ≡ link (suc j))
    → get_or (vector ∷ take size (drop place q)) m [] ≡ link m
before-links link vector place size zero q within first each = sym first
before-links link vector place size (suc m) q within first each =
    at-record place size q m (omega arith) ∙ each m (omega arith)

-- chained by CBC
pub Cbc-from_answered : (f : List ℕ → List ℕ) (vector end : List ℕ) (p q : List (List ℕ)) (place size : ℕ)
    → place + size ≤ length p → length q ≡ length p → All IsBlock p
    → IsAnswered (chain_after f vector p place) (λ j. chain_after f vector p place (suc j)) p q place size end size
    → Cbc f vector (take size (drop place p)) (take size (drop place q))
unfolding chain_after
Cbc-from_answered f vector end p q place size within same blocks is =
    let in_p : length (take size (drop place p)) ≡ size = length-record place size p within in
    let in_q : length (take size (drop place q)) ≡ size = length-record place size q (omega arith) in
    let link : ℕ → List ℕ = chain_after f vector p place in
    record {
      count = in_q ∙ sym in_p;
      widths = λ n from to.
          let low : n - 1 < size = omega arith in
          ap length (at-record place size p (n - 1) low) ∙ (blocks (place + (n - 1)) [] (omega arith)).0;
      chained = λ n from to.
          let low : n - 1 < size = omega arith in
          at-record place size q (n - 1) low
          ∙ is.answered (n - 1) low
          ∙ ap f (ap₂ xor_blocks (sym (at-record place size p (n - 1) low))
          (sym (before-links link vector place size (n - 1) q (omega arith) refl is.answered)));
    }

-- and the chain goes on from its last block
pub next_vector-chained : (f : List ℕ → List ℕ) (vector end : List ℕ) (p q : List (List ℕ)) (place size : ℕ)
    → place + size ≤ length q
    → IsAnswered (chain_after f vector p place) (λ j. chain_after f vector p place (suc j)) p q place size end size
    → end ≡ next_vector vector (take size (drop place q))
unfolding chain_after
next_vector-chained f vector end p q place size within is =
    next_vector-links (chain_after f vector p place) vector end place size q within refl is.answered is.end

-- out of the chain
pub CbcDecrypts-from_answered : (f : List ℕ → List ℕ) (vector end : List ℕ) (q p : List (List ℕ)) (place size : ℕ)
    → place + size ≤ length q → length p ≡ length q
    → IsAnswered (cipher_before vector q place)
    (λ j. xor_blocks (f (get_or q (place + j) [])) (cipher_before vector q place j)) q p place size end size
    → CbcDecrypts f vector (take size (drop place q)) (take size (drop place p))
CbcDecrypts-from_answered f vector end q p place size within same is =
    let in_q : length (take size (drop place q)) ≡ size = length-record place size q within in
    let in_p : length (take size (drop place p)) ≡ size = length-record place size p (omega arith) in
    record {
      count = in_p ∙ sym in_q;
      cbc_decrypted = λ n from to.
          let low : n - 1 < size = omega arith in
          at-record place size p (n - 1) low
          ∙ is.answered (n - 1) low
          ∙ ap₂ xor_blocks (ap f (sym (at-record place size q (n - 1) low)))
          (sym (before-links (cipher_before vector q place) vector place size (n - 1) q (omega arith) refl
          (λ j below. refl)));
    }

-- and it goes on from its last block
pub next_vector-cbc_decrypted : (made : ℕ → List ℕ) (vector end : List ℕ) (q p : List (List ℕ)) (place size : ℕ)
    → place + size ≤ length q → IsAnswered (cipher_before vector q place) made q p place size end size
    → end ≡ next_vector vector (take size (drop place q))
next_vector-cbc_decrypted made vector end q p place size within is =
    next_vector-links (cipher_before vector q place) vector end place size q within refl (λ j below. refl) is.end
