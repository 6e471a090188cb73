-- Lists of bytes and of blocks that are the same.
use Rattle.std.proofs.Common.{◌≡◌, ◌<◌, ℕ, suc, List, [], ◌∷◌, ◌++◌, length, take, drop, get_or, bit_xor, refl, sym, ap, ap₂, ◌∙◌, arith}
use Rattle.std.specs.List.{All, concat}
use Rattle.std.specs.Int.Bits.{xor_self, xor_assoc, xor_zero_r}
use Rattle.std.proofs.Math.Seq.{take-append_seam, drop-append_seam}
use Rattle.std.proofs.lemmas.List.{length-append}
use Rattle.std.proofs.lemmas.List.Elements.{All-head, All-tail}
use Rattle.des.specs.Cbc.{xor_blocks}

-- a list of eight bytes, or what else stands in their place
abbrev pub HasEight : List ℕ → Type 0
HasEight block = length block ≡ 8

-- lists of eight are cut alike
pub same_blocks : (xs ys : List (List ℕ)) → All HasEight xs → All HasEight ys → concat xs ≡ concat ys → xs ≡ ys
same_blocks [] [] first second joined = refl
same_blocks [] (y ∷ ys) first second joined =
    let width : length y ≡ 8 = All-head HasEight y ys second in
    let long : length (concat []) ≡ length (y ++ concat ys) = ap length joined in
    absurd (omega (arith, length-append y (concat ys)))
same_blocks (x ∷ xs) [] first second joined =
    let width : length x ≡ 8 = All-head HasEight x xs first in
    let long : length (x ++ concat xs) ≡ length (concat []) = ap length joined in
    absurd (omega (arith, length-append x (concat xs)))
same_blocks (x ∷ xs) (y ∷ ys) first second joined =
    let widths : length x ≡ length y = All-head HasEight x xs first ∙ sym (All-head HasEight y ys second) in
    let head : x ≡ y =
    sym (take-append_seam x (concat xs)) ∙ ap₂ take widths joined ∙ take-append_seam y (concat ys) in
    let rest : concat xs ≡ concat ys =
    sym (drop-append_seam x (concat xs)) ∙ ap₂ drop widths joined ∙ drop-append_seam y (concat ys) in
    ap₂ ◌∷◌ head (same_blocks xs ys (All-tail HasEight x xs first) (All-tail HasEight y ys second) rest)

-- lists of blocks are the same that have the same at each place
pub same_lists : (xs ys : List (List ℕ)) → length xs ≡ length ys
    → ((i : ℕ) → i < length xs → get_or xs i [] ≡ get_or ys i []) → xs ≡ ys
same_lists [] [] count each = refl
same_lists [] (y ∷ ys) count each = absurd (omega arith)
same_lists (x ∷ xs) [] count each = absurd (omega arith)
same_lists (x ∷ xs) (y ∷ ys) count each =
    ap₂ ◌∷◌ (each 0 (omega arith)) (same_lists xs ys (omega arith) (λ i within. each (suc i) (omega arith)))

-- lists that are the same after the xor with as many bytes are the same
pub same_xored : (p q other : List ℕ) → length p ≡ length q → length (xor_blocks p other) ≡ length p
    → xor_blocks p other ≡ xor_blocks q other → p ≡ q
unfolding xor_blocks
same_xored [] [] other count whole same = refl
same_xored [] (b ∷ q) other count whole same = absurd (omega arith)
same_xored (a ∷ p) [] other count whole same = absurd (omega arith)
same_xored (a ∷ p) (b ∷ q) [] count whole same = absurd (omega arith)
same_xored (a ∷ p) (b ∷ q) (o ∷ other) count whole same =
    let undone : (c : ℕ) → bit_xor (bit_xor c o) o ≡ c = λ c. rw (xor_assoc c o o, xor_self o) (xor_zero_r c) in
    let head : bit_xor a o ≡ bit_xor b o = ap (λ (l : List ℕ). get_or l 0 0) same in
    ap₂ ◌∷◌
    (sym (undone a) ∙ ap (λ c. bit_xor c o) head ∙ undone b)
    (same_xored p q other (omega arith) (omega arith) (ap (λ (l : List ℕ). drop 1 l) same))
