-- The bytes of key data, in clear and as blocks.
use Rattle.std.proofs.Common.{◌≡◌, ℕ, ◌+◌, ◌*◌, ◌/◌, ◌%◌, ◌≤◌, ◌⊎◌, inl, inr, List, [], ◌∷◌, ◌++◌, length, get_or, take, drop, IsTrue, refl, sym, ap, ap₂, ◌∙◌, append_assoc, arith}
use Rattle.std.proofs.lemmas.List.{take-append-drop, drop-drop, drop_all, take_at, length-append, length-drop, length-take-le}
use Rattle.des_key_blocks.specs.KeyBlocks.{key_data, is_key}

-- eight bytes from a place, and the others after them
eight-and_rest : (n : ℕ) (bytes : List ℕ) → take 8 (drop n bytes) ++ drop (n + 8) bytes ≡ drop n bytes
eight-and_rest n bytes =
    ap (λ (back : List ℕ). take 8 (drop n bytes) ++ back) (sym (drop-drop 8 n bytes))
    ∙ take-append-drop 8 (drop n bytes)

-- 32 bytes in four blocks
pub in_blocks : (bytes : List ℕ) → length bytes ≡ 32
    → take 8 (drop 0 bytes) ++ (take 8 (drop 8 bytes) ++ (take 8 (drop 16 bytes) ++ (take 8 (drop 24 bytes) ++ [])))
    ≡ bytes
in_blocks bytes count =
    let fourth = ap (λ (back : List ℕ). take 8 (drop 24 bytes) ++ back) (sym (drop_all 32 bytes (omega arith)))
    ∙ eight-and_rest 24 bytes in
    let third = ap (λ (back : List ℕ). take 8 (drop 16 bytes) ++ back) fourth ∙ eight-and_rest 16 bytes in
    let second = ap (λ (back : List ℕ). take 8 (drop 8 bytes) ++ back) third ∙ eight-and_rest 8 bytes in
    ap (λ (back : List ℕ). take 8 (drop 0 bytes) ++ back) second ∙ eight-and_rest 0 bytes

-- three parts, and what stands after them
pub take-three : (first second third rest : List ℕ) (n : ℕ) → n ≡ length first + length second + length third
    → take n (first ++ (second ++ (third ++ rest))) ≡ first ++ (second ++ third)
take-three first second third rest n count =
    let front : List ℕ = first ++ (second ++ third) in
    let all : first ++ (second ++ (third ++ rest)) ≡ front ++ rest =
    ap (λ (back : List ℕ). first ++ back) (sym (append_assoc second third rest))
    ∙ sym (append_assoc first (second ++ third) rest) in
    ap (take n) all
    ∙ take_at front rest n (omega (arith, length-append first (second ++ third), length-append second third))

-- how many bits a key has
abbrev pub IsBits : ℕ → Type 0
IsBits bits = (bits ≡ 64) ⊎ ((bits ≡ 128) ⊎ (bits ≡ 192))

front-two : (bytes : List ℕ) → 2 ≤ length bytes → bytes ≡ get_or bytes 0 0 ∷ get_or bytes 1 0 ∷ drop 2 bytes
front-two [] some = absurd (omega arith)
front-two (first ∷ []) some = absurd (omega arith)
front-two (first ∷ (second ∷ rest)) some = refl

module _ (bytes key : List ℕ) (bits : ℕ) (is_bits : IsBits bits) (within : bits / 8 + 2 ≤ length bytes)
    (is : key ≡ take (bits / 8) (drop 2 bytes)) where
  size : length key ≡ bits / 8
  size =
      ap length is ∙ length-take-le (bits / 8) (drop 2 bytes) (omega (arith, length-drop 2 bytes))

  pub is_key-read : IsTrue (is_key key)
  is_key-read =
      elim is_bits [
        | inl short ↦ (let count : length key ≡ 8 = omega (arith, size) in rw count)
        | inr (inl middle) ↦ (let count : length key ≡ 16 = omega (arith, size) in rw count)
        | inr (inr long) ↦ (let count : length key ≡ 24 = omega (arith, size) in rw count)
      ]

  pub key_data-read : 256 * get_or bytes 0 0 + get_or bytes 1 0 ≡ bits
      → bytes ≡ key_data key (drop (bits / 8) (drop 2 bytes))
  key_data-read says =
      let high : get_or bytes 0 0 ≡ 8 * length key / 256 % 256 = omega (arith, size) in
      let low : get_or bytes 1 0 ≡ 8 * length key % 256 = omega (arith, size) in
      let parts : drop 2 bytes ≡ key ++ drop (bits / 8) (drop 2 bytes) =
      sym (ap (λ (front : List ℕ). front ++ drop (bits / 8) (drop 2 bytes)) is
      ∙ take-append-drop (bits / 8) (drop 2 bytes)) in
      front-two bytes (omega arith)
      ∙ ap₂ (λ (first second : ℕ). first ∷ second ∷ drop 2 bytes) high low
      ∙ ap (λ (rest : List ℕ). 8 * length key / 256 % 256 ∷ 8 * length key % 256 ∷ rest) parts
