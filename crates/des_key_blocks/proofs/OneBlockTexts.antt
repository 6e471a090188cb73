-- An optional block has one name and one content.
use Rattle.std.proofs.Common.{◌≡◌, ℕ, ◌+◌, inl, inr, List, [], ◌++◌, length, take, drop, codes, sym, ap, ◌∙◌, append_assoc, arith}
use Rattle.std.proofs.lemmas.List.{length-append, take_at, drop_at, append-nil}
use Rattle.des_key_blocks.specs.Hex.{hex_number}
use Rattle.des_key_blocks.specs.OptionalBlocks.{short_block, long_block, IsShortBlock, IsLongBlock, IsOptionalBlock}
use Rattle.des_key_blocks.proofs.HexNumbers.{length-hex_number, hex_number-injective}
use Rattle.des_key_blocks.proofs.OptionalBlockTexts.{short-text, long-text}

-- what comes after the length
short-content : (name content : List ℕ) → length name ≡ 2 → drop 4 (short_block name content) ≡ content
short-content name content two =
    let number : List ℕ = hex_number 2 (length content + 4) in
    let count : length (name ++ number) ≡ 4 =
    omega (arith, length-append name number, length-hex_number 2 (length content + 4)) in
    ap (drop 4) (sym (append_assoc name number content)) ∙ drop_at (name ++ number) content 4 count

long-content : (unit : ℕ) (name content : List ℕ) → length name ≡ 2 → drop 10 (long_block unit name content) ≡ content
long-content unit name content two =
    let first : List ℕ = hex_number 2 unit in
    let number : List ℕ = hex_number 4 (length content + 10) in
    let front : List ℕ = name ++ (codes "00" ++ (first ++ number)) in
    let pieces : long_block unit name content ≡ front ++ content = simp append_assoc in
    let count : length front ≡ 10 = omega (
      arith,
      length-append name (codes "00" ++ (first ++ number)),
      length-append (codes "00") (first ++ number),
      length-append first number,
      length-hex_number 2 unit,
      length-hex_number 4 (length content + 10),
    ) in
    ap (drop 10) pieces ∙ drop_at front content 10 count

-- no length of two digits is 0
not-both : (unit : ℕ) (name content other_name other text : List ℕ) → length name ≡ 2 → length other_name ≡ 2
    → IsShortBlock name content text → IsLongBlock unit other_name other text → ⊥
unfolding hex_number
not-both unit name content other_name other text two other_two short long =
    let number = (short-text name content [] text two
    (short.1 ∙ sym (append-nil (short_block name content)))).size_there in
    let zeros = (long-text unit other_name other [] text other_two
    (long.2 ∙ sym (append-nil (long_block unit other_name other)))).zeros in
    let none : length content + 4 ≡ 0 = hex_number-injective 2 (length content + 4) 0 (omega (arith, short.0))
    (omega arith) (number ∙ sym zeros) in
    omega arith

pub name-once : (name content text : List ℕ) → IsOptionalBlock name content text → take 2 text ≡ name
name-once name content text block =
    elim block.1 [
      | inl short ↦ ap (take 2) short.1 ∙ take_at name _ 2 block.0
      | inr long ↦ ap (take 2) long.1.2 ∙ take_at name _ 2 block.0
    ]

pub content-once : (name content other_name other text : List ℕ) → IsOptionalBlock name content text
    → IsOptionalBlock other_name other text → content ≡ other
content-once name content other_name other text block other_block =
    elim block.1 [
      | inl short ↦ elim other_block.1 [
        | inl other_short ↦
            sym (short-content name content block.0) ∙ ap (drop 4) (sym short.1 ∙ other_short.1)
            ∙ short-content other_name other other_block.0
        | inr other_long ↦
            absurd (not-both other_long.0 name content other_name other text block.0 other_block.0 short other_long.1)
      ]
      | inr long ↦ elim other_block.1 [
        | inl other_short ↦
            absurd (not-both long.0 other_name other name content text other_block.0 block.0 other_short long.1)
        | inr other_long ↦
            sym (long-content long.0 name content block.0) ∙ ap (drop 10) (sym long.1.2 ∙ other_long.1.2)
            ∙ long-content other_long.0 other_name other other_block.0
      ]
    ]
