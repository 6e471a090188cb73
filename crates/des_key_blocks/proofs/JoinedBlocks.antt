-- Blocks of eight bytes, one after the other: how many bytes they are, the first of them, and one list for the bytes.
use Rattle.std.proofs.Common.{◌≡◌, ℕ, zero, suc, ◌+◌, ◌*◌, ◌<◌, List, [], ◌∷◌, ◌++◌, length, take, drop, refl, sym, ap, ap₂, ◌∙◌, subst, take-add, arith}
use Rattle.std.specs.List.{All}
use Rattle.std.proofs.lemmas.List.{length-append, take_at, drop_at, take_all}
use Rattle.std.proofs.lemmas.List.Elements.{All-nil, All-cons, All-head, All-tail, All-take, All-drop, All-append, All-weaker}
use Rattle.des.specs.Blocks.{AreBytes, IsBlock}
use Rattle.des_key_blocks.specs.KeyBlocks.{joined}

abbrev pub IsEight : List ℕ → Type 0
IsEight block = length block ≡ 8

pub eight-blocks : (blocks : List (List ℕ)) → All IsBlock blocks → All IsEight blocks
eight-blocks blocks are = All-weaker IsBlock IsEight (λ block is. is.0) blocks are

pub length-joined : (blocks : List (List ℕ)) → All IsEight blocks → length (joined blocks) ≡ 8 * length blocks
length-joined [] eight = refl
length-joined (block ∷ blocks) eight =
    let first : length block ≡ 8 = All-head IsEight block blocks eight in
    omega (arith, length-append block (joined blocks), length-joined blocks (All-tail IsEight block blocks eight))

pub take-joined : (n : ℕ) (blocks : List (List ℕ)) → All IsEight blocks
    → take (8 * n) (joined blocks) ≡ joined (take n blocks)
take-joined zero blocks eight = refl
take-joined (suc n) [] eight = take_all (8 * suc n) [] (omega arith)
take-joined (suc n) (block ∷ blocks) eight =
    let first : length block ≡ 8 = All-head IsEight block blocks eight in
    let split : 8 * suc n ≡ 8 + 8 * n = omega arith in
    ap (λ k. take k (block ++ joined blocks)) split
    ∙ take-add 8 (8 * n) (block ++ joined blocks)
    ∙ ap₂ ◌++◌ (take_at block (joined blocks) 8 first)
    (ap (take (8 * n)) (drop_at block (joined blocks) 8 first)
    ∙ take-joined n blocks (All-tail IsEight block blocks eight))

pub joined-injective : (first second : List (List ℕ)) → All IsEight first → All IsEight second
    → joined first ≡ joined second → first ≡ second
joined-injective [] [] first_in second_in same = refl
joined-injective [] (block ∷ blocks) first_in second_in same =
    let eight : length block ≡ 8 = All-head IsEight block blocks second_in in
    absurd (omega (arith, ap length same, length-append block (joined blocks)))
joined-injective (block ∷ blocks) [] first_in second_in same =
    let eight : length block ≡ 8 = All-head IsEight block blocks first_in in
    absurd (omega (arith, ap length same, length-append block (joined blocks)))
joined-injective (block ∷ blocks) (other ∷ others) first_in second_in same =
    let eight : length block ≡ 8 = All-head IsEight block blocks first_in in
    let other_eight : length other ≡ 8 = All-head IsEight other others second_in in
    ap₂ ◌∷◌
    (sym (take_at block (joined blocks) 8 eight) ∙ ap (take 8) same ∙ take_at other (joined others) 8 other_eight)
    (joined-injective blocks others (All-tail IsEight block blocks first_in) (All-tail IsEight other others second_in)
    (sym (drop_at block (joined blocks) 8 eight) ∙ ap (drop 8) same ∙ drop_at other (joined others) 8 other_eight))

-- of bytes they are blocks
pub IsBlock-joined : (blocks : List (List ℕ)) → All IsEight blocks → AreBytes (joined blocks) → All IsBlock blocks
IsBlock-joined [] eight bytes = All-nil IsBlock
IsBlock-joined (block ∷ blocks) eight bytes =
    let first : length block ≡ 8 = All-head IsEight block blocks eight in
    All-cons IsBlock block blocks (
      first,
      subst AreBytes (take_at block (joined blocks) 8 first)
          (All-take (λ number. number < 256) 8 (block ++ joined blocks) bytes),
    )
    (IsBlock-joined blocks (All-tail IsEight block blocks eight)
    (subst AreBytes (drop_at block (joined blocks) 8 first)
    (All-drop (λ number. number < 256) 8 (block ++ joined blocks) bytes)))

-- and blocks are of bytes
pub AreBytes-joined : (blocks : List (List ℕ)) → All IsBlock blocks → AreBytes (joined blocks)
AreBytes-joined [] are = All-nil (λ number. number < 256)
AreBytes-joined (block ∷ blocks) are =
    All-append (λ number. number < 256) block (joined blocks) (All-head IsBlock block blocks are).1
    (AreBytes-joined blocks (All-tail IsBlock block blocks are))
