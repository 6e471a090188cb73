-- The key of HMAC as a block.
use Rattle.std.proofs.Common.{◌≡◌, ◌∙◌, sym, ℕ, ◌<◌, ◌≤◌, ◌++◌, List, length, drop, replicate, ap}
use Rattle.std.proofs.lemmas.Bool.{le-leb, lt-leb, cond-true, cond-false}
use Rattle.std.proofs.lemmas.List.{drop-replicate}
use Rattle.des_passwords.specs.Hmac.{with_zeros, block_key}

-- a key over the first of 64 zeros
pub block_of_short : (digest : List ℕ → List ℕ) (key : List ℕ) → length key ≤ 64
    → key ++ drop (length key) (replicate 64 0) ≡ block_key digest key
block_of_short digest key short =
    ap (λ (zeros : List ℕ). key ++ zeros) (drop-replicate (length key) 64 0)
    ∙ sym (ap with_zeros (cond-true _ key (digest key) (le-leb (length key) 64 short)))

-- the digest of a longer key over the first of 64 zeros
pub block_of_long : (digest : List ℕ → List ℕ) (key hashed : List ℕ) → 64 < length key → hashed ≡ digest key
    → hashed ++ drop (length hashed) (replicate 64 0) ≡ block_key digest key
block_of_long digest key hashed long is =
    ap (λ (zeros : List ℕ). hashed ++ zeros) (drop-replicate (length hashed) 64 0)
    ∙ ap with_zeros (is ∙ sym (cond-false _ key (digest key) (lt-leb (length key) 64 long)))
