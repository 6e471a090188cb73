-- How OpenSSL makes keys from passwords (manual page EVP_BytesToKey(3)). If one digest is long enough for key and
-- vector, this is PBKDF1 (RFC 8018, section 5.1).
use Rattle.std.specs.Prelude.{ℕ, zero, suc, ◌+◌, ◌/◌, List, [], ◌++◌, take}

-- the hash function n times, one after the other: HASH ^ n
unfoldable pub repeated : (List ℕ → List ℕ) → ℕ → List ℕ → List ℕ
repeated digest zero m = m
repeated digest (suc n) m = digest (repeated digest n m)

-- D n = HASH ^ count (D (n - 1) || password || salt), where D 0 is empty
unfoldable pub d : (List ℕ → List ℕ) → ℕ → List ℕ → List ℕ → ℕ → List ℕ
d digest count password salt zero = []
d digest count password salt (suc n) = repeated digest count (d digest count password salt n ++ password ++ salt)

-- D 1 || D 2 || .. || D n
unfoldable pub ds : (List ℕ → List ℕ) → ℕ → List ℕ → List ℕ → ℕ → List ℕ
ds digest count password salt zero = []
ds digest count password salt (suc n) = ds digest count password salt n ++ d digest count password salt (suc n)

-- key and vector, together of `length` bytes: the first bytes of the digests, of `size` bytes each
abbrev pub bytes_to_key : (List ℕ → List ℕ) → ℕ → List ℕ → List ℕ → ℕ → ℕ → List ℕ
bytes_to_key digest size password salt count length =
    take length (ds digest count password salt (length / size + 1))
