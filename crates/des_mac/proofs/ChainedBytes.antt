-- The chain over blocks of bytes.
use Rattle.std.proofs.Common.{◌≡◌, ℕ, zero, suc, ◌+◌, ◌*◌, ◌≤◌, List, ◌++◌, length, drop, refl, arith, length-drop, add-one}
use Rattle.std.proofs.lemmas.List.{take-append-le, drop-append-le, drop-drop, drop_at}
use Rattle.des.specs.Cbc.{xor_blocks}
use Rattle.des_mac.specs.CbcMac.{block_after, chain_after}

-- a block of a list is that of a longer one
pub block_after-append : (m x : List ℕ) (n : ℕ) → 8 * n + 8 ≤ length m → block_after (m ++ x) n ≡ block_after m n
block_after-append m x n fits =
    let whole : 8 ≤ length (drop (8 * n) m) = omega (arith, length-drop (8 * n) m) in
    rw (drop-append-le (8 * n) m x (omega arith)) (take-append-le 8 (drop (8 * n) m) x whole)

-- past as many whole blocks the blocks of a list are those of what comes after them
pub block_after-past : (p q : List ℕ) (k i : ℕ) → length p ≡ 8 * k → block_after (p ++ q) (k + i) ≡ block_after q i
block_after-past p q k i width =
    let past : 8 * (k + i) ≡ 8 * k + 8 * i = omega arith in
    rw (past, ← drop-drop (8 * i) (8 * k) (p ++ q), drop_at p q (8 * k) width) refl

-- the chain reads no more than the blocks that it counts
pub chain_after-append : (e : List ℕ → List ℕ) (m x : List ℕ) (n : ℕ) → 8 * n ≤ length m
    → chain_after e (m ++ x) n ≡ chain_after e m n
unfolding chain_after
chain_after-append e m x zero fits = refl
chain_after-append e m x (suc n) fits =
    rw (block_after-append m x n (omega arith), chain_after-append e m x n (omega arith)) refl

-- it goes on with the next block
pub chain_after-next : (e : List ℕ → List ℕ) (m : List ℕ) (n : ℕ)
    → chain_after e m (n + 1) ≡ e (xor_blocks (block_after m n) (chain_after e m n))
unfolding chain_after
chain_after-next e m n = rw add-one refl
