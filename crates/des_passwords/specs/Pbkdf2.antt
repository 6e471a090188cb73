-- PBKDF2 (RFC 8018, section 5.2). `prf` is the function that the password keys, as HMAC.
use Rattle.std.specs.Prelude.{ℕ, zero, suc, ◌+◌, ◌/◌, ◌-◌, List, [], ◌++◌, take, bit_xor}
use Rattle.std.specs.Simd.Lanes.{zip2}
use Rattle.std.specs.Int.{w32, to_be_bytes}

-- U 1, U 2, ..: the first from the salt and the number of the block, each other from the one before. Here n counts from 0
unfoldable pub u : (List ℕ → List ℕ) → List ℕ → ℕ → List ℕ
u prf first zero = prf first
u prf first (suc n) = prf (u prf first n)

-- U 1 ^ U 2 ^ .. ^ U (n + 1)
unfoldable pub xor_of : (List ℕ → List ℕ) → List ℕ → ℕ → List ℕ
xor_of prf first zero = u prf first zero
xor_of prf first (suc n) = zip2 bit_xor (xor_of prf first n) (u prf first (suc n))

-- T i = F (P, S, c, i), where U 1 = PRF (P, S || INT (i))
abbrev pub block : (List ℕ → List ℕ) → List ℕ → ℕ → ℕ → List ℕ
block prf salt iterations i = xor_of prf (salt ++ to_be_bytes w32 i) (iterations - 1)

-- T 1 || T 2 || .. || T n
unfoldable pub blocks : (List ℕ → List ℕ) → List ℕ → ℕ → ℕ → List ℕ
blocks prf salt iterations zero = []
blocks prf salt iterations (suc n) = blocks prf salt iterations n ++ block prf salt iterations (suc n)

-- the derived key, of `length` bytes: the first of as many blocks as have more, each of `size` bytes
abbrev pub pbkdf2 : (List ℕ → List ℕ) → ℕ → List ℕ → ℕ → ℕ → List ℕ
pbkdf2 prf size salt iterations length =
    take length (blocks prf salt iterations (length / size + 1))
