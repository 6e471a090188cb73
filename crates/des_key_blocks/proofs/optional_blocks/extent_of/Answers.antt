use Rattle.std.proofs.Common.{◌≡◌, ℕ, ◌+◌, ◌^◌, ◌<◌, ◌≤◌, List, ◌++◌, length, take, drop, codes, Some, inl, inr, sym, ap, ◌∙◌, arith}
use Rattle.std.proofs.lemmas.List.{length-take, length-drop, length-append}
use Rattle.des_key_blocks.specs.Hex.{hex_number}
use Rattle.des_key_blocks.proofs.HexNumbers.{number-at, number-within, number-same, number-none}
use Rattle.des_key_blocks.proofs.OptionalBlockTexts.{short-text, long-text, short-made, block-least, number-there, length-short, length-long}
use Rattle.des_key_blocks.proofs.optional_blocks.extent_of.Goals as goal

-- the two characters of the length
two-there : (text : List ℕ) → 4 ≤ length text → length (take 2 (drop 2 text)) ≡ 2
two-there text least = omega (arith, length-take 2 (drop 2 text), length-drop 2 text)

pub returns-then-text-lt4-clause-only : goal.returns-then-text-lt4-clause-only
returns-then-text-lt4-clause-only c = λ name content first rest block is.
    absurd (omega (arith, ap length is, length-append first rest, block-least name content first block))

pub returns-in_err-size-clause-only : goal.returns-in_err-size-clause-only
returns-in_err-size-clause-only c = λ name content first rest block is.
    let text : List ℕ = c.args.text.now in
    let there = number-there name content first rest text block is in
    absurd (number-none 2 there.0 (take 2 (drop 2 text)) (two-there text (omega arith)) c.in_err-size.ensures.none
    there.1)

pub long_extent-requires-clause-zeros : goal.long_extent-requires-clause-zeros
unfolding hex_number
long_extent-requires-clause-zeros c =
    let text : List ℕ = c.args.text.now in
    let is : hex_number 2 c.in_ok-size.size ≡ take 2 (drop 2 text) =
    number-at 2 c.in_ok-size.size (take 2 (drop 2 text)) (two-there text (omega arith)) c.in_ok-size.ensures.some in
    let zero : c.in_ok-size.size ≡ 0 = omega arith in
    sym (ap (hex_number 2) zero) ∙ is

-- the length that was found is that of a block of the shorter form
short-found : (found : ℕ) (name content rest text : List ℕ) → 4 ≤ length text → length name ≡ 2
    → length content + 4 < 256
    → found < 16 ^ length (take 2 (drop 2 text))
    → hex_number (length (take 2 (drop 2 text))) found ≡ take 2 (drop 2 text)
    → hex_number 2 (length content + 4) ≡ take 2 (drop 2 text) → found ≡ length content + 4
short-found found name content rest text least two short within is there =
    number-same 2 found (length content + 4) (take 2 (drop 2 text)) (two-there text least) within is short there

-- and 0 before one of the longer form
long-found : (found : ℕ) (text : List ℕ) → 4 ≤ length text → found < 16 ^ length (take 2 (drop 2 text))
    → hex_number (length (take 2 (drop 2 text))) found ≡ take 2 (drop 2 text)
    → codes "00" ≡ take 2 (drop 2 text) → found ≡ 0
unfolding hex_number
long-found found text least within is there =
    number-same 2 found 0 (take 2 (drop 2 text)) (two-there text least) within is (omega arith) there

pub returns-in-0-clause-only : goal.returns-in-0-clause-only
returns-in-0-clause-only c = λ name content first rest block is.
    let text : List ℕ = c.args.text.now in
    elim block.1 [
      | inl short ↦
          let there = short-text name content rest text block.0 (is ∙ ap (λ (t : List ℕ). t ++ rest) short.1) in
          let found = short-found c.in_ok-size.size name content rest text (omega arith) block.0 short.0
          c.in_ok-size.ensures.within c.in_ok-size.ensures.some there.size_there in
          absurd (omega arith)
      | inr long ↦
          let size : length first ≡ length content + 10 =
          ap length long.1.2 ∙ length-long long.0 name content block.0 in (
            10,
            (
              omega arith,
              c.long_extent.ensures.only long.0 name content rest block.0 long.1.0 long.1.1
                  (is ∙ ap (λ (t : List ℕ). t ++ rest) long.1.2)
                  ∙ ap (λ (n : ℕ). Some (10, n)) (sym size),
            ),
          )
    ]

pub returns-in_default-clause-block : goal.returns-in_default-clause-block
returns-in_default-clause-block c = λ enough within.
    let text : List ℕ = c.args.text.now in
    let two = two-there text (omega arith) in
    let short = number-within 2 c.in_ok-size.size (take 2 (drop 2 text)) two c.in_ok-size.ensures.within in
    short-made c.in_ok-size.size text enough within short
    (number-at 2 c.in_ok-size.size (take 2 (drop 2 text)) two c.in_ok-size.ensures.some)

pub returns-in_default-clause-only : goal.returns-in_default-clause-only
returns-in_default-clause-only c = λ name content first rest block is.
    let text : List ℕ = c.args.text.now in
    elim block.1 [
      | inl short ↦
          let there = short-text name content rest text block.0 (is ∙ ap (λ (t : List ℕ). t ++ rest) short.1) in
          let found = short-found c.in_ok-size.size name content rest text (omega arith) block.0 short.0
          c.in_ok-size.ensures.within c.in_ok-size.ensures.some there.size_there in
          let size : length first ≡ length content + 4 = ap length short.1 ∙ length-short name content block.0 in
          (4, (omega arith, ap (λ n. Some (4, n)) (found ∙ sym size)))
      | inr long ↦
          let there = long-text long.0 name content rest text block.0 (is ∙ ap (λ (t : List ℕ). t ++ rest) long.1.2) in
          let found = long-found c.in_ok-size.size text (omega arith) c.in_ok-size.ensures.within
          c.in_ok-size.ensures.some there.zeros in
          absurd (omega arith)
    ]
