use Rattle.std.proofs.Common.{◌≡◌, ℕ, ◌-◌, ◌≤◌, List, ◌++◌, length, take, drop, get_or, sym, ap, ap₂, ◌∙◌, arith, rules}
use Rattle.std.proofs.lemmas.List.{take_all, drop_all, take-map, length-take-le, append-nil}
use Rattle.std.proofs.lemmas.List.Edits.{map_over_more}
use Rattle.des_payment.specs.Texts.{values}
use Rattle.des_payment.proofs.pin.Pin.values.Goals as goal

pub loop-character-preserved : goal.loop-character-preserved
loop-character-preserved c =
    rw c.saturating_sub.ensures
    (map_over_more (λ (digit : ℕ). digit - 48) c.self.inside.text c.loop-character.character-items
    c.loop-character.character-index
    (get_or c.loop-character.character-items c.loop-character.character-index 0) (search rules)
    c.loop-character.invariant (search rules))

-- the first values are those of the first characters
first_values : (text shown items : List ℕ) (count i : ℕ) → length text ≡ 12 → 12 ≤ i → count ≤ 12
    → take count text ≡ shown → items ≡ values (take i text) ++ drop i text → take (length shown) items ≡ values shown
first_values text shown items count i long past few is made =
    let all : items ≡ values text =
    made
    ∙ ap₂ (λ (xs ys : List ℕ). values xs ++ ys) (take_all i text (omega arith)) (drop_all i text (omega arith))
    ∙ append-nil (values text) in
    let counted : length shown ≡ count = sym (ap length is) ∙ length-take-le count text (omega arith) in
    ap₂ take counted all ∙ take-map (λ (digit : ℕ). digit - 48) count text ∙ ap values is

pub returns : goal.returns
returns c =
    first_values c.self.inside.text c.args.self.now c.loop-character.character-items c.self.inside.length
    c.loop-character.character-index c.self.told c.loop-character-test.false c.self.invariant.0 c.self.view_is
    c.loop-character.invariant
