-- Digits cut into those of their blocks.
use Rattle.std.proofs.Common.{◌≡◌, ℕ, zero, suc, ◌*◌, ◌/◌, ◌%◌, ◌<◌, ◌≤◌, List, [], ◌∷◌, ◌++◌, length, true, take, drop, get_or, map, refl, sym, ap, ◌∙◌, arith, length-drop}
use Rattle.std.specs.List.{All, AllPass, concat}
use Rattle.std.specs.Simd.{first_chunks}
use Rattle.std.proofs.lemmas.List.{length-take-le, take-append-drop, take_all}
use Rattle.std.proofs.lemmas.List.Elements.{All-cons, All-nil, All-take, All-drop}
use Rattle.des.specs.Blocks.{IsBlock}
use Rattle.hex.specs.Hex.{is_hex_digit}
use Rattle.des_tool.specs.Digits.{bytes_of_digits}
use Rattle.des_tool.proofs.Decoding.{IsKey-digits, bytes_of_digits-append}

-- what holds of each element holds of each in a chunk
pub All-chunk : (P : ℕ → Type 0) (n k i : ℕ) (s : List ℕ) → i < k → All P s → All P (get_or (first_chunks n k s) i [])
All-chunk P n zero i s within all = absurd (omega arith)
All-chunk P n (suc k) zero s within all = All-take P n s all
All-chunk P n (suc k) (suc i) s within all = All-chunk P n k i (drop n s) (omega arith) (All-drop P n s all)

-- the chunks' bytes are blocks
pub All-IsBlock-chunks : (k : ℕ) (s : List ℕ) → 16 * k ≤ length s → AllPass is_hex_digit s
    → All IsBlock (map bytes_of_digits (first_chunks 16 k s))
All-IsBlock-chunks zero s fits digits = All-nil IsBlock
All-IsBlock-chunks (suc k) s fits digits =
    let P : ℕ → Type 0 = λ c. is_hex_digit c ≡ true in
    All-cons IsBlock (bytes_of_digits (take 16 s)) (map bytes_of_digits (first_chunks 16 k (drop 16 s)))
    (IsKey-digits 8 (take 16 s) (length-take-le 16 s (omega arith)) (All-take P 16 s digits))
    (All-IsBlock-chunks k (drop 16 s) (omega (arith, length-drop 16 s)) (All-drop P 16 s digits))

-- the chunks' bytes, joined, are those of the whole
pub concat-chunks : (k : ℕ) (s : List ℕ) → length s ≡ 16 * k
    → concat (map bytes_of_digits (first_chunks 16 k s)) ≡ bytes_of_digits s
unfolding bytes_of_digits
concat-chunks zero [] count = refl
concat-chunks zero (c ∷ s) count = absurd (omega arith)
concat-chunks (suc k) s count =
    let front : length (take 16 s) % 2 ≡ 0 = rw (length-take-le 16 s (omega arith)) refl in
    let rest = concat-chunks k (drop 16 s) (omega (arith, length-drop 16 s)) in
    ap (λ (bytes : List ℕ). bytes_of_digits (take 16 s) ++ bytes) rest
    ∙ sym (bytes_of_digits-append (take 16 s) (drop 16 s) front)
    ∙ ap bytes_of_digits (take-append-drop 16 s)

-- the blocks, once each chunk is taken
pub items-chunks : (s : List ℕ) (chunks items : List (List ℕ)) (i : ℕ) → chunks ≡ first_chunks 16 (length s / 16) s
    → length chunks ≤ i
    → items ≡ map bytes_of_digits (take i chunks) → items ≡ map bytes_of_digits (first_chunks 16 (length s / 16) s)
items-chunks s chunks items i cut over taken = taken ∙ ap (map bytes_of_digits) (take_all i chunks over ∙ cut)
