-- Blocks that are enclosed: what opens them, and that what encloses blocks encloses no others.
use Rattle.std.proofs.Common.{◌≡◌, ℕ, ◌+◌, ◌-◌, ◌<◌, List, [], ◌∷◌, ◌++◌, map, length, get_or, take, drop, reverse, refl, ap, ap₂, sym, subst, ◌∙◌, arith}
use Rattle.std.specs.List.{All}
use Rattle.std.proofs.lemmas.Grind.{common_steps}
use Rattle.std.proofs.lemmas.List.{get_or-reverse, reverse-reverse, reverse-append, map-append, length-reverse, same_from_push, take_all, take_more}
use Rattle.std.proofs.lemmas.List.Elements.{All-cons, All-head, All-map, All-tail}
use Rattle.des.specs.Blocks.{IsBlock}
use Rattle.des.specs.Cbc.{Cbc, CbcDecrypts, CbcUnder}
use Rattle.des.specs.Laws.BlockBits.{IsBlock-to_be_bytes}
use Rattle.des.specs.Relations.{TakesBlock}
use Rattle.des.proofs.ChainedBlocks.{CbcUnder-weaker, CbcUnder-from_CbcDecrypts, CbcDecrypts-from_Cbc}
use Rattle.des.proofs.ChainedPieces.{CbcDecrypts-append}
use Rattle.des.proofs.CbcDecryptedLists.{cbc_decrypted, cbc_decrypted-from}
use Rattle.des.proofs.XoredBlocks.{IsBlock-xor_blocks}
use Rattle.des_key_wraps.specs.CmsKeyWrap.{second_iv, reversed, checksum, Encloses, Wraps}
use Rattle.des_key_wraps.proofs.TkwSteps.{Undoes}

is_second_iv : IsBlock second_iv
is_second_iv = IsBlock-to_be_bytes 0x4adda22c79e82105

-- a list by its first and its last element
pub framed : (blocks : List (List ℕ)) (n m : ℕ) → length blocks ≡ n + 2 → m ≡ n
    → blocks ≡ get_or blocks 0 [] ∷ take m (drop 1 blocks) ++ get_or blocks (n + 1) [] ∷ []
framed [] n m size same = absurd (omega arith)
framed (block ∷ blocks) n m size same = grind (arith, common_steps, take_all, take_more)

-- what is enclosed by a relation is enclosed by a weaker one
pub Encloses-weaker : {P Q : List ℕ → List ℕ → Type 0} {iv : List ℕ} {p enclosed : List (List ℕ)}
    → ((x y : List ℕ) → P x y → Q x y) → Encloses P iv p enclosed → Encloses Q iv p enclosed
Encloses-weaker {P} {Q} {iv} {p} {enclosed} weaker encloses = record {
  temp1 = encloses.temp1;
  are_blocks = encloses.are_blocks;
  first = CbcUnder-weaker P Q iv p encloses.temp1 weaker encloses.first;
  second = CbcUnder-weaker P Q second_iv (reversed (iv ∷ encloses.temp1)) enclosed weaker encloses.second;
}

-- ---- all bytes in reverse order

reversed-append : (a b : List (List ℕ)) → reversed (a ++ b) ≡ reversed b ++ reversed a
reversed-append a b = ap (map reverse) (reverse-append a b) ∙ map-append reverse (reverse b) (reverse a)

reversed-reversed : (blocks : List (List ℕ)) → reversed (reversed blocks) ≡ blocks
reversed-reversed [] = refl
reversed-reversed (block ∷ blocks) =
    ap reversed (reversed-append (block ∷ []) blocks) ∙ reversed-append (reversed blocks) (reverse block ∷ [])
    ∙ ap₂ ◌∷◌ (reverse-reverse block) (reversed-reversed blocks)

All-reverse : {X : Type 0} (P : X → Type 0) (xs : List X) → All P xs → All P (reverse xs)
All-reverse P xs all = grind (arith, get_or-reverse, length-reverse)

All-reversed : (blocks : List (List ℕ)) → All IsBlock blocks → All IsBlock (reversed blocks)
All-reversed blocks are =
    All-map IsBlock reverse (reverse blocks) (λ i d within.
    let it = All-reverse IsBlock blocks are i d within in
    (length-reverse _ ∙ it.0, All-reverse (λ byte. byte < 256) _ it.1))

-- ---- what encloses

-- blocks that are chained to blocks
CbcUnder-blocks : (E : List ℕ → List ℕ) (iv : List ℕ) (p q : List (List ℕ)) → IsBlock iv → All IsBlock p → All IsBlock q
    → Cbc E iv p q → CbcUnder (TakesBlock E) iv p q
CbcUnder-blocks E iv p q is_iv are_p are_q cbc = record {
  count = cbc.count;
  widths = cbc.widths;
  chained = λ n from to. (
    IsBlock-xor_blocks _ _ (are_p (n - 1) [] (omega arith))
        (All-cons IsBlock iv q is_iv are_q (n - 1) [] (omega (arith, cbc.count))),
    sym (cbc.chained n from to),
  );
}

pub Encloses-from_Cbc : {E : List ℕ → List ℕ} {iv : List ℕ} {p temp1 enclosed : List (List ℕ)} → All IsBlock p
    → All IsBlock (reversed (iv ∷ temp1)) → All IsBlock enclosed → Cbc E iv p temp1
    → Cbc E second_iv (reversed (iv ∷ temp1)) enclosed → Encloses (TakesBlock E) iv p enclosed
Encloses-from_Cbc {E} {iv} {p} {temp1} {enclosed} are_p are_reversed are_enclosed first second =
    let are : All IsBlock (iv ∷ temp1) =
    subst (All IsBlock) (reversed-reversed (iv ∷ temp1)) (All-reversed (reversed (iv ∷ temp1)) are_reversed) in
    let are_temp1 : All IsBlock temp1 = All-tail IsBlock iv temp1 are in record {
      temp1 = temp1;
      are_blocks = (are_p, are_temp1);
      first = CbcUnder-blocks E iv p temp1 (All-head IsBlock iv temp1 are) are_p are_temp1 first;
      second = CbcUnder-blocks E second_iv (reversed (iv ∷ temp1)) enclosed is_second_iv are_reversed are_enclosed second;
    }

-- ---- what was enclosed

module _ {E D : List ℕ → List ℕ} (laws : Undoes E D) where
  -- a chain is decrypted
  decrypted : (iv : List ℕ) (p q : List (List ℕ)) → IsBlock iv → All IsBlock p → CbcUnder (TakesBlock E) iv p q
      → p ≡ cbc_decrypted D iv q
  decrypted iv p q is_iv are chains =
      cbc_decrypted-from D iv q p (CbcDecrypts-from_Cbc E D iv p q is_iv are laws.is_block laws.undone
      (CbcUnder-weaker (TakesBlock E) (λ block answer. answer ≡ E block) iv p q (λ x y taken. sym taken.1) chains))

  -- in both directions
  opened : (iv : List ℕ) (p enclosed : List (List ℕ)) → IsBlock iv → (is : Encloses (TakesBlock E) iv p enclosed)
      → (iv ∷ is.temp1 ≡ reversed (cbc_decrypted D second_iv enclosed)) × (p ≡ cbc_decrypted D iv is.temp1)
  opened iv p enclosed is_iv is = (
    sym (reversed-reversed (iv ∷ is.temp1))
        ∙ ap reversed (decrypted second_iv (reversed (iv ∷ is.temp1)) enclosed is_second_iv
        (All-reversed (iv ∷ is.temp1) (All-cons IsBlock iv is.temp1 is_iv is.are_blocks.1)) is.second),
    decrypted iv p is.temp1 is_iv is.are_blocks.0 is.first,
  )

  -- what wraps a key wraps no other, and has its checksum
  pub Wraps-one : (iv vector check : List ℕ) (key other wrapped : List (List ℕ)) → IsBlock iv → IsBlock vector
      → Encloses (TakesBlock E) iv (key ++ check ∷ []) wrapped → Wraps (TakesBlock E) vector other wrapped
      → (key ≡ other) × (checksum key ≡ check)
  Wraps-one iv vector check key other wrapped is_iv is_vector encloses wraps =
      let one = opened iv (key ++ check ∷ []) wrapped is_iv encloses in
      let two = opened vector (other ++ checksum other ∷ []) wrapped is_vector wraps in
      let parts = same_from_push key other check (checksum other) (one.1
      ∙ ap (λ (blocks : List (List ℕ)). cbc_decrypted D (get_or blocks 0 []) (drop 1 blocks)) (one.0 ∙ sym two.0) ∙ sym two.1) in
      (parts.0, ap checksum parts.0 ∙ sym parts.1)

-- ---- what opens it

-- the first block, and those behind it: x, p and y are their plaintexts
pub Encloses-opened : {E D : List ℕ → List ℕ} {first x iv behind : List ℕ} {turned enclosed : List (List ℕ)}
    (last y check : List ℕ) (middle p key : List (List ℕ)) → Undoes D E → All IsBlock enclosed
    → enclosed ≡ first ∷ middle ++ last ∷ [] → CbcDecrypts D second_iv (first ∷ []) (x ∷ [])
    → CbcDecrypts D first (middle ++ last ∷ []) (p ++ y ∷ []) → iv ≡ reverse y → turned ≡ reversed p → behind ≡ reverse x
    → IsBlock iv → All IsBlock (turned ++ behind ∷ []) → All IsBlock (key ++ check ∷ [])
    → CbcDecrypts D iv (turned ++ behind ∷ []) (key ++ check ∷ [])
    → Encloses (TakesBlock E) iv (key ++ check ∷ []) enclosed
Encloses-opened {E} {D} {first} {x} {iv} {behind} {turned} {enclosed} last y check middle p key laws are whole one others is_iv
    is_turned is_behind iv_block are_temp1 are_key opened =
    let temp1 : List (List ℕ) = turned ++ behind ∷ [] in
    let same : x ∷ p ++ y ∷ [] ≡ reversed (iv ∷ temp1) =
    sym (reversed-reversed (x ∷ p ++ y ∷ []))
    ∙ ap reversed (reversed-append (x ∷ []) (p ++ y ∷ [])
    ∙ ap (λ (xs : List (List ℕ)). xs ++ reverse x ∷ []) (reversed-append p (y ∷ []))
    ∙ sym (ap₂ ◌∷◌ is_iv (ap₂ (λ (xs : List (List ℕ)) (x : List ℕ). xs ++ x ∷ []) is_turned is_behind))) in
    let chained = CbcDecrypts-append D second_iv (first ∷ []) (x ∷ []) (middle ++ last ∷ []) (p ++ y ∷ []) one others in
    record {
      temp1 = temp1;
      are_blocks = (are_key, are_temp1);
      first = CbcUnder-from_CbcDecrypts E D iv (key ++ check ∷ []) temp1 iv_block are_temp1 laws.is_block laws.undone opened;
      second =
          CbcUnder-from_CbcDecrypts E D second_iv (reversed (iv ∷ temp1)) enclosed is_second_iv are laws.is_block laws.undone
          (rw (← same, whole) chained);
    }
