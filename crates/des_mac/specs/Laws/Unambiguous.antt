-- Padding method 2 tells where the message ends.
use Rattle.std.proofs.Common.{◌≡◌, ℕ, zero, suc, List, [], ◌∷◌, ◌++◌, drop, get_or, replicate, refl, sym, ap, ap₂, arith}
use Rattle.des_mac.specs.Padding.{one_bit_after, padded}

-- there is no one bit in zeros
no_one_bit : (k : ℕ) (m rest : List ℕ) → replicate k 0 ≡ m ++ 0x80 ∷ rest → ⊥
no_one_bit zero [] rest same = cc
no_one_bit zero (byte ∷ m) rest same = cc
no_one_bit (suc k) [] rest same =
    let first : ◌≡◌ {A = ℕ} 0 0x80 = ap (λ (list : List ℕ). get_or list 0 0) same in omega arith
no_one_bit (suc k) (byte ∷ m) rest same = no_one_bit k m rest (ap (drop 1) same)

-- two lists are one if they are so with a one bit and zeros after them
before_one_bit : (m n : List ℕ) (some others : ℕ)
    → m ++ 0x80 ∷ replicate some 0 ≡ n ++ 0x80 ∷ replicate others 0 → m ≡ n
before_one_bit [] [] some others same = refl
before_one_bit [] (byte ∷ n) some others same =
    absurd (no_one_bit some n (replicate others 0) (ap (drop 1) same))
before_one_bit (byte ∷ m) [] some others same =
    absurd (no_one_bit others m (replicate some 0) (sym (ap (drop 1) same)))
before_one_bit (byte ∷ m) (other ∷ n) some others same =
    let first : byte ≡ other = ap (λ (list : List ℕ). get_or list 0 0) same in
    ap₂ (λ (x : ℕ) (rest : List ℕ). x ∷ rest) first
    (before_one_bit m n some others (ap (drop 1) same))

pub one_bit_after-unambiguous : (m n : List ℕ)
    → padded one_bit_after m ≡ padded one_bit_after n → m ≡ n
one_bit_after-unambiguous m n same = before_one_bit m n _ _ same
