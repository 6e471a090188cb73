-- Digits behind zeros.
use Rattle.std.proofs.Common.{◌≡◌, ◌∙◌, ap, ℕ, ◌-◌, ◌≤◌, List, [], ◌++◌, length, drop, replicate, append-nil, arith}
use Rattle.std.proofs.lemmas.List.{drop-replicate, take-replicate}
use borrow.Rule.Slice.PartMut.{put_mid}

-- what is written over the last of as many zeros as it has elements
pub behind_zeros : (count : ℕ) (digits written : List ℕ) → length digits ≤ count → written ≡ digits
    → put_mid (count - length digits) (count - (count - length digits)) (replicate count 0) written
    ≡ replicate (count - length digits) 0 ++ digits
behind_zeros count digits written fits same =
    let n = count - length digits in
    let within : n ≤ count = omega arith in
    let none : count - n - (count - n) ≡ 0 = omega arith in
    let front = take-replicate n count 0 within in
    let end : drop (count - n) (drop n (replicate count 0)) ≡ [] =
    ap (drop (count - n)) (drop-replicate n count 0) ∙ drop-replicate (count - n) (count - n) 0
    ∙ ap (λ (m : ℕ). replicate m 0) none in
    ap (λ (l : List ℕ). l ++ (written ++ drop (count - n) (drop n (replicate count 0)))) front
    ∙ ap (λ (l : List ℕ). replicate n 0 ++ (written ++ l)) end
    ∙ ap (λ (l : List ℕ). replicate n 0 ++ l) (append-nil written ∙ same)
