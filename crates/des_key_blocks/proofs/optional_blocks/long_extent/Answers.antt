use Rattle.std.proofs.Common.{◌≡◌, ℕ, ◌+◌, ◌^◌, ◌<◌, ◌≤◌, ◌⊎◌, inl, inr, List, length, take, drop, Some, ap, arith}
use Rattle.std.proofs.lemmas.List.{length-take, length-drop}
use Rattle.des_key_blocks.specs.Hex.{hex_number}
use Rattle.des_key_blocks.proofs.HexNumbers.{number-at, number-within, number-same, number-none}
use Rattle.des_key_blocks.proofs.OptionalBlockTexts.{LongText, long-text, long-made}
use Rattle.des_key_blocks.proofs.optional_blocks.long_extent.Goals as goal
use Rattle.des_key_blocks.proofs.optional_blocks.long_extent.Goals.{else-unit-ne2-via-then-unit-ne2+else-unit-ne4, else-unit-ne2-via-else-unit-ne2}

-- the two characters of the unit
two-there : (text : List ℕ) → 10 ≤ length text → length (take 2 (drop 4 text)) ≡ 2
two-there text least = omega (arith, length-take 2 (drop 4 text), length-drop 4 text)

-- the four characters of the length
four-there : (text : List ℕ) → 10 ≤ length text → length (take 4 (drop 6 text)) ≡ 4
four-there text least = omega (arith, length-take 4 (drop 6 text), length-drop 6 text)

-- the unit is the one that was found
found : (unit number : ℕ) (content rest text : List ℕ) → (unit ≡ 2) ⊎ (unit ≡ 4) → 10 ≤ length text
    → number < 16 ^ length (take 2 (drop 4 text))
    → hex_number (length (take 2 (drop 4 text))) number ≡ take 2 (drop 4 text) → LongText unit content rest text
    → number ≡ unit
found unit number content rest text is_unit least within is there =
    let below : unit < 16 ^ 2 = elim is_unit [
      | inl two ↦ omega arith
      | inr four ↦ omega arith
    ] in
    number-same 2 number unit (take 2 (drop 4 text)) (two-there text least) within is below there.unit_there

pub returns-then-text-lt10-clause-only : goal.returns-then-text-lt10-clause-only
returns-then-text-lt10-clause-only c = λ unit name content rest two is_unit below is.
    let there = long-text unit name content rest c.args.text.now two is in
    absurd (omega (arith, there.count))

pub returns-in_err-unit-clause-only : goal.returns-in_err-unit-clause-only
returns-in_err-unit-clause-only c = λ unit name content rest two is_unit below is.
    let text : List ℕ = c.args.text.now in
    let there = long-text unit name content rest text two is in
    absurd (number-none 2 unit (take 2 (drop 4 text)) (two-there text (omega arith)) c.in_err-unit.ensures.none
    there.unit_there)

pub returns-in_err-size-clause-only : goal.returns-in_err-size-clause-only
returns-in_err-size-clause-only c = λ unit name content rest two is_unit below is.
    let text : List ℕ = c.args.text.now in
    let there = long-text unit name content rest text two is in
    absurd (number-none 4 (length content + 10) (take 4 (drop 6 text)) (four-there text (omega arith))
    c.in_err-size.ensures.none there.size_there)

pub returns-then-unit-ne4-clause-only : goal.returns-then-unit-ne4-clause-only
returns-then-unit-ne4-clause-only c = λ unit name content rest two is_unit below is.
    let text : List ℕ = c.args.text.now in
    let there = long-text unit name content rest text two is in
    let same = found unit c.in_ok-unit.unit content rest text is_unit (omega arith) c.in_ok-unit.ensures.within
    c.in_ok-unit.ensures.some there in
    absurd (elim is_unit [
      | inl two ↦ c.if-unit-ne2.true (omega arith)
      | inr four ↦ c.if-unit-ne4.true (omega arith)
    ])

pub returns-clause-block : goal.returns-clause-block
returns-clause-block c = λ enough within.
    let text : List ℕ = c.args.text.now in
    let unit : ℕ = c.in_ok-unit.unit in
    let size : ℕ = c.in_ok-size.size in
    let four = four-there text (omega arith) in
    let is_unit : (unit ≡ 2) ⊎ (unit ≡ 4) = elim c.else-unit-ne2.branch [
      | else-unit-ne2-via-then-unit-ne2+else-unit-ne4 w ↦ inr (omega arith)
      | else-unit-ne2-via-else-unit-ne2 w ↦ inl (omega arith)
    ] in
    long-made unit size text is_unit enough within
    (number-within 4 size (take 4 (drop 6 text)) four c.in_ok-size.ensures.within) c.requires.zeros
    (number-at 2 unit (take 2 (drop 4 text)) (two-there text (omega arith)) c.in_ok-unit.ensures.some)
    (number-at 4 size (take 4 (drop 6 text)) four c.in_ok-size.ensures.some)

pub returns-clause-only : goal.returns-clause-only
returns-clause-only c = λ unit name content rest two is_unit below is.
    let text : List ℕ = c.args.text.now in
    let there = long-text unit name content rest text two is in
    let same = number-same 4 c.in_ok-size.size (length content + 10) (take 4 (drop 6 text))
    (four-there text (omega arith)) c.in_ok-size.ensures.within c.in_ok-size.ensures.some below there.size_there in
    ap (λ (size : ℕ). Some (10, size)) same
