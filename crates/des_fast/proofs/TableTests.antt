-- Tests of every case there is: of bits, each set and not set, and of the entries of a table.
use Rattle.std.proofs.Common.{◌≡◌, ℕ, zero, suc, ◌<◌, ◌==◌, Bool, true, false, ◌&&◌, List, [], ◌∷◌, length, subst, sym, ap, ◌∙◌, arith}
use Rattle.std.proofs.lemmas.Bool.{and_parts, agree_below, agree_below_at}
use Rattle.des.specs.Bits.{bits_of, number_of}
use Rattle.des.specs.Laws.BitLists.{bits_of-number_of}
use Rattle.des.proofs.BitParts.{same_below}

-- a test of n bits, with each of them set and not set
abbrev pub in_all_ways : ℕ → (List Bool → Bool) → Bool
in_all_ways zero test = test []
in_all_ways (suc n) test = in_all_ways n (λ bits. test (true ∷ bits)) && in_all_ways n (λ bits. test (false ∷ bits))

-- is one of any n bits
pub in_all_ways-at : (n : ℕ) (test : List Bool → Bool) → in_all_ways n test ≡ true
    → (bits : List Bool) → length bits ≡ n → test bits ≡ true
in_all_ways-at zero test passed [] size = passed
in_all_ways-at (suc n) test passed (true ∷ bits) size =
    in_all_ways-at n (λ rest. test (true ∷ rest)) (and_parts _ _ passed).0 bits (omega arith)
in_all_ways-at (suc n) test passed (false ∷ bits) size =
    in_all_ways-at n (λ rest. test (false ∷ rest)) (and_parts _ _ passed).1 bits (omega arith)
in_all_ways-at n test passed bits size = absurd (omega arith)

-- n bits that write a number are its bits
pub bits_of-written : (n m : ℕ) (bits : List Bool) → length bits ≡ n → number_of bits ≡ m → bits ≡ bits_of n m
bits_of-written n m bits size same =
    subst (λ k. bits ≡ bits_of k m) size (sym (bits_of-number_of bits) ∙ ap (bits_of (length bits)) same)

-- two tables with the same entries, row by row
pub same_entries : (f g : ℕ → ℕ → ℕ) (m n i j : ℕ) → i < m → j < n
    → agree_below (λ k. agree_below (λ l. f k l == g k l) (λ l. true) n) (λ k. true) m ≡ true → f i j ≡ g i j
same_entries f g m n i j row column each =
    same_below (f i) (g i) n j
    (agree_below_at (λ k. agree_below (λ l. f k l == g k l) (λ l. true) n) (λ k. true) m i each row) column
