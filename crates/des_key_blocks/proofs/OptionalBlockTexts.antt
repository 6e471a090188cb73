-- The text of an optional block: what stands where in it, and a block of what stands there.
use Rattle.std.proofs.Common.{◌≡◌, ℕ, ◌+◌, ◌-◌, ◌/◌, ◌^◌, ◌<◌, ◌≤◌, ◌⊎◌, inl, inr, List, ◌++◌, length, take, drop, codes, refl, sym, ap, ap₂, ◌∙◌, subst, append_assoc, arith}
use Rattle.std.proofs.lemmas.List.{length-append, length-take, length-drop, take-append-drop, take_at, drop_at, drop-drop, take-take, drop-take}
use Rattle.des_key_blocks.specs.Hex.{hex_number}
use Rattle.des_key_blocks.specs.OptionalBlocks.{short_block, long_block, IsOptionalBlock}
use Rattle.des_key_blocks.proofs.HexNumbers.{length-hex_number, hex_number-four}

-- what stands between a front and a back
pub between : (m n : ℕ) (front middle back : List ℕ) → length front ≡ m → length middle ≡ n
    → take n (drop m (front ++ (middle ++ back))) ≡ middle
between m n front middle back is_front is_middle =
    rw (drop_at front (middle ++ back) m is_front) (take_at middle back n is_middle)

-- a text in three pieces
pub three_pieces : (m n : ℕ) (text : List ℕ)
    → text ≡ take m text ++ (take n (drop m text) ++ drop (m + n) text)
three_pieces m n text =
    sym (ap (λ (back : List ℕ). take m text ++ back)
    (ap (λ (back : List ℕ). take n (drop m text) ++ back) (sym (drop-drop n m text))
    ∙ take-append-drop n (drop m text))
    ∙ take-append-drop m text)

-- a piece within the front of a text is one of the text
pub piece-front : (m n size : ℕ) (text : List ℕ) → m + n ≤ size
    → take n (drop m (take size text)) ≡ take n (drop m text)
piece-front m n size text within =
    let split : size ≡ m + (size - m) = omega arith in
    let e : drop m (take size text) ≡ take (size - m) (drop m text) =
    ap (λ k. drop m (take k text)) split ∙ drop-take m (size - m) text in
    ap (take n) e ∙ take-take n (size - m) (drop m text) (omega arith)

-- ---- a block of the shorter form

-- its length, in a text that begins with it
pub short-length : (name content rest : List ℕ) → length name ≡ 2
    → take 2 (drop 2 (short_block name content ++ rest)) ≡ hex_number 2 (length content + 4)
short-length name content rest two =
    let number : List ℕ = hex_number 2 (length content + 4) in
    let e : short_block name content ++ rest ≡ name ++ (number ++ (content ++ rest)) = simp append_assoc in
    rw e (between 2 2 name number (content ++ rest) two (length-hex_number 2 (length content + 4)))

pub length-short : (name content : List ℕ) → length name ≡ 2 → length (short_block name content) ≡ length content + 4
length-short name content two =
    omega (
      arith,
      length-append name (hex_number 2 (length content + 4) ++ content),
      length-append (hex_number 2 (length content + 4)) content,
      length-hex_number 2 (length content + 4),
    )

-- the front of a text whose length stands there
pub short-made : (size : ℕ) (text : List ℕ) → 4 ≤ size → size ≤ length text → size < 256
    → hex_number 2 size ≡ take 2 (drop 2 text)
    → IsOptionalBlock (take 2 text) (drop 4 (take size text)) (take size text)
short-made size text least within short is_size =
    let part : List ℕ = take size text in
    let content : List ℕ = drop 4 part in
    let count : length content + 4 ≡ size = omega (arith, length-drop 4 part, length-take size text) in
    let name : take 2 part ≡ take 2 text = take-take 2 size text (omega arith) in
    let middle : take 2 (drop 2 part) ≡ hex_number 2 (length content + 4) =
    piece-front 2 2 size text (omega arith) ∙ sym is_size ∙ ap (hex_number 2) (sym count) in
    let is : part ≡ short_block (take 2 text) content =
    three_pieces 2 2 part ∙ ap (λ (front : List ℕ). front ++ (take 2 (drop 2 part) ++ content)) name
    ∙ ap (λ (number : List ℕ). take 2 text ++ (number ++ content)) middle in
    (omega (arith, length-take 2 text), inl (omega arith, is))

-- ---- a block of the longer form

pub length-long : (unit : ℕ) (name content : List ℕ) → length name ≡ 2
    → length (long_block unit name content) ≡ length content + 10
length-long unit name content two =
    let number : List ℕ = hex_number 4 (length content + 10) in
    omega (
      arith,
      length-append name (codes "00" ++ (hex_number 2 unit ++ (number ++ content))),
      length-append (codes "00") (hex_number 2 unit ++ (number ++ content)),
      length-append (hex_number 2 unit) (number ++ content),
      length-append number content,
      length-hex_number 2 unit,
      length-hex_number 4 (length content + 10),
    )

pub long-zeros : (unit : ℕ) (name content rest : List ℕ) → length name ≡ 2
    → take 2 (drop 2 (long_block unit name content ++ rest)) ≡ codes "00"
long-zeros unit name content rest two =
    let number : List ℕ = hex_number 4 (length content + 10) in
    let back : List ℕ = hex_number 2 unit ++ (number ++ (content ++ rest)) in
    let e : long_block unit name content ++ rest ≡ name ++ (codes "00" ++ back) = simp append_assoc in
    rw e (between 2 2 name (codes "00") back two refl)

pub long-unit : (unit : ℕ) (name content rest : List ℕ) → length name ≡ 2
    → take 2 (drop 4 (long_block unit name content ++ rest)) ≡ hex_number 2 unit
long-unit unit name content rest two =
    let number : List ℕ = hex_number 4 (length content + 10) in
    let front : List ℕ = name ++ codes "00" in
    let back : List ℕ = number ++ (content ++ rest) in
    let e : long_block unit name content ++ rest ≡ front ++ (hex_number 2 unit ++ back) = simp append_assoc in
    rw e (between 4 2 front (hex_number 2 unit) back (omega (arith, length-append name (codes "00")))
    (length-hex_number 2 unit))

pub long-length : (unit : ℕ) (name content rest : List ℕ) → length name ≡ 2
    → take 4 (drop 6 (long_block unit name content ++ rest)) ≡ hex_number 4 (length content + 10)
long-length unit name content rest two =
    let number : List ℕ = hex_number 4 (length content + 10) in
    let front : List ℕ = name ++ (codes "00" ++ hex_number 2 unit) in
    let back : List ℕ = content ++ rest in
    let e : long_block unit name content ++ rest ≡ front ++ (number ++ back) = simp append_assoc in
    rw e (between 6 4 front number back
    (omega (
      arith,
      length-append name (codes "00" ++ hex_number 2 unit),
      length-append (codes "00") (hex_number 2 unit),
      length-hex_number 2 unit,
    ))
    (length-hex_number 4 (length content + 10)))

-- a block from its pieces
pub long-written : (size : ℕ) (name content : List ℕ) → size ≡ length content + 10
    → name ++ (codes "00" ++ (codes "02" ++ (hex_number 2 (size / 256) ++ (hex_number 2 size ++ content))))
    ≡ long_block 2 name content
unfolding hex_number
long-written size name content count =
    ap (λ (back : List ℕ). name ++ (codes "00" ++ (codes "02" ++ back)))
    (sym (append_assoc (hex_number 2 (size / 256)) (hex_number 2 size) content)
    ∙ ap (λ (number : List ℕ). number ++ content) (sym (hex_number-four size) ∙ ap (hex_number 4) count))

pub long-pieces : (size : ℕ) (name content first zeros unit high low last : List ℕ) → length name ≡ 2
    → length content ≤ 9999 → size ≡ length content + 10 → first ≡ name → zeros ≡ codes "00" → unit ≡ codes "02"
    → high ≡ hex_number 2 (size / 256) → low ≡ hex_number 2 size → last ≡ content
    → IsOptionalBlock name content (first ++ (zeros ++ (unit ++ (high ++ (low ++ last)))))
long-pieces size name content first zeros unit high low last two few count named zero bytes above below same =
    let e = long-written size name content count in
    let is : first ++ (zeros ++ (unit ++ (high ++ (low ++ last)))) ≡ long_block 2 name content = cc in
    let short : length content + 10 < 16 ^ 4 = omega arith in
    (two, inr (2, (inl refl, short, is)))

-- a text from its fifth character, of which two and four more are known
pub back_pieces : (part second third content : List ℕ) → take 2 (drop 4 part) ≡ second → take 4 (drop 6 part) ≡ third
    → drop 10 part ≡ content → drop 4 part ≡ second ++ (third ++ content)
back_pieces part second third content is_second is_third is_content =
    sym (take-append-drop 2 (drop 4 part))
    ∙ ap₂ (λ (front back : List ℕ). front ++ back) is_second
    (drop-drop 2 4 part ∙ sym (take-append-drop 4 (drop 6 part))
    ∙ ap₂ (λ (front back : List ℕ). front ++ back) is_third (drop-drop 4 6 part ∙ is_content))

-- the front of a text whose length stands there in four digits
pub long-made : (unit size : ℕ) (text : List ℕ) → (unit ≡ 2) ⊎ (unit ≡ 4) → 10 ≤ size → size ≤ length text
    → size < 16 ^ 4 → codes "00" ≡ take 2 (drop 2 text) → hex_number 2 unit ≡ take 2 (drop 4 text)
    → hex_number 4 size ≡ take 4 (drop 6 text)
    → IsOptionalBlock (take 2 text) (drop 10 (take size text)) (take size text)
long-made unit size text is_unit least within long zeros unit_there is_size =
    let part : List ℕ = take size text in
    let content : List ℕ = drop 10 part in
    let count : length content + 10 ≡ size = omega (arith, length-drop 10 part, length-take size text) in
    let name : take 2 part ≡ take 2 text = take-take 2 size text (omega arith) in
    let first : take 2 (drop 2 part) ≡ codes "00" = piece-front 2 2 size text (omega arith) ∙ sym zeros in
    let second : take 2 (drop 4 part) ≡ hex_number 2 unit = piece-front 4 2 size text (omega arith) ∙ sym unit_there in
    let third : take 4 (drop 6 part) ≡ hex_number 4 (length content + 10) =
    piece-front 6 4 size text (omega arith) ∙ sym is_size ∙ ap (hex_number 4) (sym count) in
    let fourth : drop 4 part ≡ hex_number 2 unit ++ (hex_number 4 (length content + 10) ++ content) =
    back_pieces part (hex_number 2 unit) (hex_number 4 (length content + 10)) content second third refl in
    let is : part ≡ long_block unit (take 2 text) content =
    three_pieces 2 2 part ∙ ap (λ (front : List ℕ). front ++ (take 2 (drop 2 part) ++ drop 4 part)) name
    ∙ ap₂ (λ (zeros back : List ℕ). take 2 text ++ (zeros ++ back)) first fourth in
    let below : length content + 10 < 16 ^ 4 = subst (λ n. n < 16 ^ 4) (sym count) long in
    (omega (arith, length-take 2 text), inr (unit, (is_unit, below, is)))

-- ---- what stands in a text that begins with a block

-- in one of the longer form
pub record LongText (unit : ℕ) (content rest text : List ℕ) : Type 0 where
  pub count : length text ≡ length content + 10 + length rest
  pub zeros : codes "00" ≡ take 2 (drop 2 text)
  pub unit_there : hex_number 2 unit ≡ take 2 (drop 4 text)
  pub size_there : hex_number 4 (length content + 10) ≡ take 4 (drop 6 text)

pub long-text : (unit : ℕ) (name content rest text : List ℕ) → length name ≡ 2
    → text ≡ long_block unit name content ++ rest → LongText unit content rest text
long-text unit name content rest text two is = record {
  count = omega (
    arith,
    ap length is,
    length-append (long_block unit name content) rest,
    length-long unit name content two,
  );
  zeros = sym (long-zeros unit name content rest two) ∙ ap (λ (t : List ℕ). take 2 (drop 2 t)) (sym is);
  unit_there = sym (long-unit unit name content rest two) ∙ ap (λ (t : List ℕ). take 2 (drop 4 t)) (sym is);
  size_there = sym (long-length unit name content rest two) ∙ ap (λ (t : List ℕ). take 4 (drop 6 t)) (sym is);
}

-- in one of the shorter form
pub record ShortText (content rest text : List ℕ) : Type 0 where
  pub count : length text ≡ length content + 4 + length rest
  pub size_there : hex_number 2 (length content + 4) ≡ take 2 (drop 2 text)

pub short-text : (name content rest text : List ℕ) → length name ≡ 2 → text ≡ short_block name content ++ rest
    → ShortText content rest text
short-text name content rest text two is = record {
  count = omega (arith, ap length is, length-append (short_block name content) rest, length-short name content two);
  size_there = sym (short-length name content rest two) ∙ ap (λ (t : List ℕ). take 2 (drop 2 t)) (sym is);
}

-- a block has four characters at least, of which two are a number
pub block-least : (name content first : List ℕ) → IsOptionalBlock name content first → 4 ≤ length first
block-least name content first block =
    elim block.1 [
      | inl short ↦ omega (arith, ap length short.1, length-short name content block.0)
      | inr long ↦ omega (arith, ap length long.1.2, length-long long.0 name content block.0)
    ]

pub number-there : (name content first rest text : List ℕ) → IsOptionalBlock name content first → text ≡ first ++ rest
    → (number : ℕ) × (hex_number 2 number ≡ take 2 (drop 2 text))
unfolding hex_number
number-there name content first rest text block is =
    elim block.1 [
      | inl short ↦ (
        length content + 4,
        (short-text name content rest text block.0
            (is ∙ ap (λ (t : List ℕ). t ++ rest) short.1)).size_there,
      )
      | inr long ↦
          (0, (long-text long.0 name content rest text block.0 (is ∙ ap (λ (t : List ℕ). t ++ rest) long.1.2)).zeros)
    ]
