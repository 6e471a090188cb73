-- Complements of bits and of bytes, and what selections and additions make of them.
use Rattle.std.proofs.Common.{◌≡◌, ℕ, ◌-◌, ◌<◌, ◌==◌, nat_lt, not, List, [], ◌∷◌, ◌++◌, Bool, true, false, length, slice_index_or, refl, ap₂, ◌∙◌, sym, arith}
use Rattle.std.specs.List.{list_all}
use Rattle.std.proofs.lemmas.List.{length-map, map-append, get_or-map}
use Rattle.std.proofs.lemmas.List.Elements.{All-map}
use Rattle.std.proofs.lemmas.Bool.{eqb-true, agree_below_at}
use Rattle.std.proofs.lemmas.Bool.Decides.{nat_tests}
use Rattle.des.specs.Bits.{bits_of, bits_of_bytes, number_of, select, xor, xor_bits}
use Rattle.des.specs.Blocks.{AreBytes, IsKey, block_of_bits}
use Rattle.des.specs.Complement.{complement_bits, complement_of_byte, complement}
use Rattle.des.specs.Laws.BitLists.{bits_of-number_of, number_of-lt}
use Rattle.des.specs.Laws.BlockBits.{IsBlock-block_of_bits, bits_of_bytes-block_of_bits, block_of_bits-bits_of_bytes}

-- ---- bytes

-- the complement of a byte has its bits, each the other one
bits_of-complement_of_byte : (byte : ℕ)
    → bits_of 8 (complement_of_byte byte) ≡ complement_bits (bits_of 8 byte)
unfolding bits_of complement_of_byte
bits_of-complement_of_byte byte = bits_of-number_of (complement_bits (bits_of 8 byte))

-- it is what is left of 255
pub complement_of_byte-rest : (byte : ℕ) → byte < 256 → complement_of_byte byte ≡ 255 - byte
unfolding bits_of number_of complement_of_byte
complement_of_byte-rest byte small =
    eqb-true _ _
    (agree_below_at (λ b. complement_of_byte b == 255 - b) (λ b. true) 256 byte refl small)

-- the complement of bytes has their bits, each the other one
pub bits_of_bytes-complement : (bytes : List ℕ)
    → bits_of_bytes (complement bytes) ≡ complement_bits (bits_of_bytes bytes)
unfolding bits_of_bytes
bits_of_bytes-complement [] = refl
bits_of_bytes-complement (byte ∷ bytes) =
    ap₂ ◌++◌ (bits_of-complement_of_byte byte) (bits_of_bytes-complement bytes)
    ∙ sym (map-append not (bits_of 8 byte) (bits_of_bytes bytes))

-- it is bytes
AreBytes-complement : (bytes : List ℕ) → AreBytes (complement bytes)
unfolding bits_of complement_of_byte
AreBytes-complement bytes =
    All-map (λ byte. byte < 256) complement_of_byte bytes
    (λ k d within. number_of-lt (complement_bits (bits_of 8 (slice_index_or bytes k d))))

-- and as many
pub IsKey-complement : (n : ℕ) (key : List ℕ) → IsKey n key → IsKey n (complement key)
IsKey-complement n key is_key =
    (length-map key complement_of_byte ∙ is_key.0, AreBytes-complement key)

-- the block of complemented bits is the complement of the block
pub block_of_bits-complement : (bits : List Bool) → length bits ≡ 64
    → block_of_bits (complement_bits bits) ≡ complement (block_of_bits bits)
block_of_bits-complement bits width =
    let other : List ℕ = complement (block_of_bits bits) in
    let its_bits : bits_of_bytes other ≡ complement_bits bits =
    rw (bits_of_bytes-complement, bits_of_bytes-block_of_bits bits width) refl in
    rw (← its_bits)
    (block_of_bits-bits_of_bytes other
    (IsKey-complement 8 (block_of_bits bits) (IsBlock-block_of_bits bits)))

-- ---- selections and additions

-- whether each is a position in n bits
abbrev are_within : ℕ → List ℕ → Bool
are_within n positions = list_all (λ position. nat_lt (position - 1) n) positions

-- a selection from the complement is the complement of the selection
pub select-complement : (n : ℕ) (positions : List ℕ) (bits : List Bool) → length bits ≡ n
    → are_within n positions ≡ true
    → select positions (complement_bits bits) ≡ complement_bits (select positions bits)
unfolding select
select-complement n [] bits width within = refl
select-complement n (position ∷ positions) bits width within =
    let parts : (position - 1 < n) × (are_within n positions ≡ true) = grind (arith, nat_tests) in
    ap₂ ◌∷◌ (get_or-map not bits (position - 1) false false (omega (arith, parts.0)))
    (select-complement n positions bits width parts.1)

-- complements cancel in an addition of two
xor-not : (b c : Bool) → xor (not b) (not c) ≡ xor b c
xor-not b c = grind arith

pub xor_bits-complements : (bits others : List Bool)
    → xor_bits (complement_bits bits) (complement_bits others) ≡ xor_bits bits others
unfolding xor_bits
xor_bits-complements [] others = refl
xor_bits-complements (first ∷ bits) [] = refl
xor_bits-complements (first ∷ bits) (other ∷ others) =
    ap₂ ◌∷◌ (xor-not first other) (xor_bits-complements bits others)

-- and stay in an addition to other bits
xor-not_first : (b c : Bool) → xor (not b) c ≡ not (xor b c)
xor-not_first b c = grind arith

pub xor_bits-complement : (bits others : List Bool)
    → xor_bits (complement_bits bits) others ≡ complement_bits (xor_bits bits others)
unfolding xor_bits
xor_bits-complement [] others = refl
xor_bits-complement (first ∷ bits) [] = refl
xor_bits-complement (first ∷ bits) (other ∷ others) =
    ap₂ ◌∷◌ (xor-not_first first other) (xor_bits-complement bits others)
