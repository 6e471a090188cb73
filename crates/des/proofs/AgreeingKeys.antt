-- Keys that agree outside parity are one key: they have one DES relation, and in EDE two of them beside each other
-- undo each other.
use Rattle.std.proofs.Common.{◌≡◌, ◌↔◌, ℕ, List, sym, ap, ◌∙◌, subst}
use Rattle.des.specs.Blocks.{IsKey}
use Rattle.des.specs.Parity.{AgreeOutsideParity}
use Rattle.des.specs.Enciphering.{Enciphers}
use Rattle.des.specs.Rounds.{block_by_keys}
use Rattle.des.specs.Triple.{Ede3}
use Rattle.des.proofs.Graphs.{IsGraphOf-encryption, IsBijection-key}
use Rattle.des.proofs.KeySelections.{key_schedule-agreeing}

-- what DES under a key relates, it relates under one that agrees outside parity
Enciphers-from_agreeing : (key other x y : List ℕ) → IsKey 8 key → IsKey 8 other → AgreeOutsideParity key other
    → Enciphers key x y → Enciphers other x y
Enciphers-from_agreeing key other x y is_key other_is_key agree enciphers =
    let made = (IsGraphOf-encryption key is_key x y).0 enciphers in
    let same = ap (λ keys. block_by_keys keys x) (key_schedule-agreeing key other agree) in
    (IsGraphOf-encryption other other_is_key x y).1 (made.0, sym same ∙ made.1)

-- agreement outside parity, from the other key to the first
AgreeOutsideParity-turned : (key other : List ℕ) → AgreeOutsideParity key other → AgreeOutsideParity other key
AgreeOutsideParity-turned key other agree = λ position from within outside. sym (agree position from within outside)

-- keys that agree outside parity have the same DES relation
pub Enciphers-agreeing : (key other x y : List ℕ) → IsKey 8 key → IsKey 8 other → AgreeOutsideParity key other
    → Enciphers key x y ↔ Enciphers other x y
Enciphers-agreeing key other x y is_key other_is_key agree = (
  Enciphers-from_agreeing key other x y is_key other_is_key agree,
  Enciphers-from_agreeing other key x y other_is_key is_key (AgreeOutsideParity-turned key other agree),
)

-- DES under a key takes one block alone to a block
same_first : (key x other y : List ℕ) → Enciphers key x y → Enciphers key other y → x ≡ other
same_first key x other y first second =
    let there = (IsBijection-key key first.is_key).backwards y first.last_is_block in
    there.1.1 x first ∙ sym (there.1.1 other second)

-- and a block to one alone
same_last : (key x y other : List ℕ) → Enciphers key x y → Enciphers key x other → y ≡ other
same_last key x y other first second =
    let there = (IsBijection-key key first.is_key).forwards x first.first_is_block in
    there.1.1 y first ∙ sym (there.1.1 other second)

-- EDE whose first two parts agree outside parity is single DES under the third
pub Ede3-first_parts_agree : (a b k x y : List ℕ) → IsKey 8 a → IsKey 8 b → AgreeOutsideParity a b
    → Ede3 a b k x y ↔ Enciphers k x y
Ede3-first_parts_agree a b k x y is_key other_is_key agree = (
  λ passes.
      let u = passes.0 in
      let v = passes.1.0 in
      let second : Enciphers a v u = (Enciphers-agreeing a b v u is_key other_is_key agree).1 passes.1.1.1 in
      let P : List ℕ → Type 0 = λ w. Enciphers k w y in
      subst P (same_first a v x u second passes.1.1.0) passes.1.1.2,
  λ enciphers.
      let there = (IsBijection-key a is_key).forwards x enciphers.first_is_block in
      (there.0, (x, (there.1.0, (Enciphers-agreeing a b x there.0 is_key other_is_key agree).0 there.1.0, enciphers))),
)

-- EDE whose last two parts agree outside parity is single DES under the first
pub Ede3-last_parts_agree : (k a b x y : List ℕ) → IsKey 8 a → IsKey 8 b → AgreeOutsideParity a b
    → Ede3 k a b x y ↔ Enciphers k x y
Ede3-last_parts_agree k a b x y is_key other_is_key agree = (
  λ passes.
      let u = passes.0 in
      let v = passes.1.0 in
      let third : Enciphers a v y = (Enciphers-agreeing a b v y is_key other_is_key agree).1 passes.1.1.2 in
      let P : List ℕ → Type 0 = λ w. Enciphers k x w in
      subst P (same_last a v u y passes.1.1.1 third) passes.1.1.0,
  λ enciphers.
      let there = (IsBijection-key a is_key).backwards y enciphers.last_is_block in
      (y, (there.0, (enciphers, there.1.0, (Enciphers-agreeing a b there.0 y is_key other_is_key agree).0 there.1.0))),
)
