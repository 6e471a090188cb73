-- Relations between blocks in which each end has one other, and the lists that they relate.
use Rattle.std.proofs.Common.{◌≡◌, ◌≤◌, ℕ, zero, suc, ◌+◌, ◌-◌, List, [], ◌∷◌, length, get_or, refl, sym, ap₂, ◌∙◌, subst, arith}
use Rattle.std.specs.List.{All, concat}
use Rattle.std.proofs.lemmas.List.Elements.{All-cons, All-nil, All-from_get_or}
use Rattle.des.specs.Blocks.{IsBlock, AnswersEach}
use Rattle.des.specs.Cbc.{xor_blocks, block_at, block_before, CbcUnder}
use Rattle.des.proofs.ChainedBlocks.{block_before-next}
use Rattle.des_tool.specs.declared.command.request.Direction.{Direction}
use Rattle.des_tool.specs.declared.command.request.Direction.TheVariants.{Encrypt, Decrypt}
use Rattle.des_tool.specs.Answer.{ReadIn}
use Rattle.des_tool.proofs.EqualLists.{HasEight, same_blocks, same_lists, same_xored}

-- a relation is of blocks, and each end has one other
pub record IsOneToOne (Relates : List ℕ → List ℕ → Type 0) : Type 0 where
  pub first_is_block : (x y : List ℕ) → Relates x y → IsBlock x
  pub last_is_block : (x y : List ℕ) → Relates x y → IsBlock y
  pub forwards : (x y z : List ℕ) → Relates x y → Relates x z → y ≡ z
  pub backwards : (x y z : List ℕ) → Relates x z → Relates y z → x ≡ y

-- so it is read in a direction
pub IsOneToOne-read : (direction : Direction) (Relates : List ℕ → List ℕ → Type 0) → IsOneToOne Relates
    → IsOneToOne (ReadIn direction Relates)
IsOneToOne-read Encrypt Relates one = one
IsOneToOne-read Decrypt Relates one = record {
  first_is_block = λ x y. one.last_is_block y x;
  last_is_block = λ x y. one.first_is_block y x;
  forwards = λ x y z first second. one.backwards y z x first second;
  backwards = λ x y z first second. one.forwards z x y first second;
}

-- two lists of blocks that are cut from the same bytes are related to the same list
abbrev pub HasOneList : (List (List ℕ) → List (List ℕ) → Type 0) → Type 0
HasOneList Relates =
    (xs ys zs ws : List (List ℕ)) → Relates xs ys → Relates zs ws → concat xs ≡ concat zs → ys ≡ ws

module _ (Relates : List ℕ → List ℕ → Type 0) (one : IsOneToOne Relates) where
  -- what is related block by block are blocks
  eight-each : (xs ys : List (List ℕ)) → AnswersEach Relates xs ys → All HasEight xs
  eight-each [] ys each = All-nil HasEight
  eight-each (x ∷ xs) [] each = absurd each
  eight-each (x ∷ xs) (y ∷ ys) each =
      All-cons HasEight x xs (one.first_is_block x y each.0).0 (eight-each xs ys each.1)

  one_list-each : (xs ys zs : List (List ℕ)) → AnswersEach Relates xs ys → AnswersEach Relates xs zs → ys ≡ zs
  one_list-each [] [] [] first second = refl
  one_list-each [] [] (z ∷ zs) first second = absurd second
  one_list-each [] (y ∷ ys) zs first second = absurd first
  one_list-each (x ∷ xs) [] zs first second = absurd first
  one_list-each (x ∷ xs) (y ∷ ys) [] first second = absurd second
  one_list-each (x ∷ xs) (y ∷ ys) (z ∷ zs) first second =
      ap₂ ◌∷◌ (one.forwards x y z first.0 second.0) (one_list-each xs ys zs first.1 second.1)

  -- block by block
  pub HasOneList-each : HasOneList (AnswersEach Relates)
  HasOneList-each xs ys zs ws first second joined =
      let same : xs ≡ zs = same_blocks xs zs (eight-each xs ys first) (eight-each zs ws second) joined in
      one_list-each xs ys ws first (rw same second)

  module _ (iv : List ℕ) where
    -- the plaintext and the ciphertext of CBC have blocks
    eight-first : (p q : List (List ℕ)) → CbcUnder Relates iv p q → All HasEight p
    eight-first p q chains = All-from_get_or HasEight p [] (λ i within.
        let next : i + 1 - 1 ≡ i = omega arith in
        let P : ℕ → Type 0 = λ n. HasEight (get_or p n []) in
        subst P next (chains.widths (i + 1) (omega arith) (omega arith)))

    eight-last : (p q : List (List ℕ)) → CbcUnder Relates iv p q → All HasEight q
    eight-last p q chains = All-from_get_or HasEight q [] (λ i within.
        let next : i + 1 - 1 ≡ i = omega arith in
        let P : ℕ → Type 0 = λ n. HasEight (get_or q n []) in
        subst P next
        (one.last_is_block _ _ (chains.chained (i + 1) (omega arith) (omega (arith, chains.count)))).0)

    module _ (p q r : List (List ℕ)) (first : CbcUnder Relates iv p q) (second : CbcUnder Relates iv p r) where
      -- if the blocks before a place are the same, so are those at it
      same-at : (n : ℕ) → 1 ≤ n → n ≤ length p → block_before iv q n ≡ block_before iv r n → block_at q n ≡ block_at r n
      same-at n from to before =
          let P : List ℕ → Type 0 = λ b. Relates (xor_blocks (block_at p n) b) (block_at r n) in
          one.forwards _ _ _ (first.chained n from to) (subst P (sym before) (second.chained n from to))

      same-before : (n : ℕ) → n ≤ length p → block_before iv q n ≡ block_before iv r n
      same-before zero to = refl
      same-before (suc zero) to = refl
      same-before (suc (suc m)) to =
          let next : suc m + 1 ≡ suc (suc m) = omega arith in
          let P : ℕ → Type 0 = λ n. block_before iv q n ≡ block_before iv r n in
          subst P next (block_before-next iv q (suc m) (omega arith)
          ∙ same-at (suc m) (omega arith) (omega arith) (same-before (suc m) (omega arith))
          ∙ sym (block_before-next iv r (suc m) (omega arith)))

      -- so a plaintext has one ciphertext
      same-ciphertext : q ≡ r
      same-ciphertext = same_lists q r (first.count ∙ sym second.count) (λ i within.
          let next : i + 1 - 1 ≡ i = omega arith in
          let inside : i + 1 ≤ length p = omega (arith, first.count) in
          let P : ℕ → Type 0 = λ n. get_or q n [] ≡ get_or r n [] in
          subst P next (same-at (i + 1) (omega arith) inside (same-before (i + 1) inside)))

    -- and a ciphertext one plaintext
    same-plaintext : (p r q : List (List ℕ)) → CbcUnder Relates iv p q → CbcUnder Relates iv r q → p ≡ r
    same-plaintext p r q first second = same_lists p r (sym first.count ∙ second.count) (λ i within.
        let next : i + 1 - 1 ≡ i = omega arith in
        let from : 1 ≤ i + 1 = omega arith in
        let to : i + 1 ≤ length p = omega arith in
        let inside : i + 1 ≤ length r = omega (arith, first.count, second.count) in
        let width : length (block_at p (i + 1)) ≡ 8 = first.widths (i + 1) from to in
        let other_width : length (block_at r (i + 1)) ≡ 8 = second.widths (i + 1) from inside in
        let related = first.chained (i + 1) from to in
        let whole : length (xor_blocks (block_at p (i + 1)) (block_before iv q (i + 1))) ≡ 8 =
        (one.first_is_block _ _ related).0 in
        let P : ℕ → Type 0 = λ n. get_or p n [] ≡ get_or r n [] in
        subst P next (same_xored (block_at p (i + 1)) (block_at r (i + 1)) (block_before iv q (i + 1))
        (width ∙ sym other_width) (whole ∙ sym width)
        (one.backwards _ _ _ related (second.chained (i + 1) from inside))))

    -- by CBC, in either direction
    pub HasOneList-cbc : (direction : Direction) → HasOneList (ReadIn direction (CbcUnder Relates iv))
    HasOneList-cbc Encrypt xs ys zs ws first second joined =
        let same : xs ≡ zs = same_blocks xs zs (eight-first xs ys first) (eight-first zs ws second) joined in
        same-ciphertext xs ys ws first (rw same second)
    HasOneList-cbc Decrypt xs ys zs ws first second joined =
        let same : xs ≡ zs = same_blocks xs zs (eight-last ys xs first) (eight-last ws zs second) joined in
        same-plaintext ys ws xs first (rw same second)
