-- HMAC (RFC 2104, section 2), over a hash function whose blocks have 64 bytes.
use Rattle.std.specs.Prelude.{ℕ, ◌-◌, List, ◌++◌, length, replicate, bit_xor, cond, leb}
use Rattle.std.specs.Simd.Lanes.{zip2}
use Rattle.des_passwords.specs.declared.hmac.Hmac.{Hmac}

-- the key itself, or its digest if it is longer than a block
abbrev pub short_key : (List ℕ → List ℕ) → List ℕ → List ℕ
short_key digest key = cond (leb (length key) 64) key (digest key)

-- bytes with as many zeros after them as make a block
abbrev pub with_zeros : List ℕ → List ℕ
with_zeros bytes = bytes ++ replicate (64 - length bytes) 0

-- K, the key as a block
abbrev pub block_key : (List ℕ → List ℕ) → List ℕ → List ℕ
block_key digest key = with_zeros (short_key digest key)

-- a block xored with a pad, one byte repeated: 0x36 for ipad, 0x5C for opad
abbrev pub xored : List ℕ → ℕ → List ℕ
xored block pad = zip2 bit_xor block (replicate 64 pad)

-- H(K XOR opad, H(K XOR ipad, text))
abbrev pub hmac : (List ℕ → List ℕ) → List ℕ → List ℕ → List ℕ
hmac digest key text =
    digest (xored (block_key digest key) 0x5C ++ digest (xored (block_key digest key) 0x36 ++ text))

-- the state stands for a message under a key: its two hashes for what is hashed before and with the message
abbrev pub IsHmacOf : {S : Type 0} → (S → List ℕ → Type 0) → (List ℕ → List ℕ) → Hmac S → List ℕ → List ℕ → Type 0
IsHmacOf holds digest state key m =
    holds state.inner (xored (block_key digest key) 0x36 ++ m)
    × holds state.outer (xored (block_key digest key) 0x5C)
