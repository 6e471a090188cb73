-- Selections of bits by position, and addition modulo 2 of lists of bits.
use Rattle.std.proofs.Common.{◌≡◌, ℕ, zero, suc, ◌+◌, ◌-◌, ◌<◌, ◌≤◌, List, [], ◌∷◌, Bool, false, map, length, take, drop, slice_index_or, refl, sym, ap, ap₂, ◌∙◌, arith}
use Rattle.std.specs.List.{range_with_len}
use Rattle.std.proofs.lemmas.List.{length-map, get_or_past, take_all, drop_more}
use Rattle.std.proofs.lemmas.Simd.{map-map}
use Rattle.std.proofs.Math.ListN.{get_or-map}
use Rattle.std.proofs.Math.Path.{fun_ext}
use Rattle.des.specs.Bits.{bit, select, xor, xor_bits}
use Rattle.des.specs.Tables.{initial_permutation, permutation, final_permutation}
use Rattle.des.specs.CipherFunction.{cipher_function}

-- a selection has as many bits as its list of positions
pub length-select : (positions : List ℕ) (bits : List Bool)
    → length (select positions bits) ≡ length positions
unfolding select
length-select positions bits = length-map positions (bit bits)

-- two lists of one length add to a list of that length
pub length-xor_bits : (bits others : List Bool) → length bits ≡ length others
    → length (xor_bits bits others) ≡ length bits
unfolding xor_bits
length-xor_bits [] others same = refl
length-xor_bits (first ∷ bits) [] same = sym same
length-xor_bits (first ∷ bits) (other ∷ others) same =
    ap suc (length-xor_bits bits others (omega arith))

-- the cipher function's value has 32 bits
pub length-cipher_function : (half round_key : List Bool)
    → length (cipher_function half round_key) ≡ 32
unfolding cipher_function
length-cipher_function half round_key = length-select permutation _

-- adding the same bit again gives back the first
xor-xor : (b c : Bool) → xor (xor b c) c ≡ b
xor-xor b c = grind arith

-- adding the same bits again gives back the first list
pub xor_bits-xor_bits : (bits others : List Bool) → length bits ≡ length others
    → xor_bits (xor_bits bits others) others ≡ bits
unfolding xor_bits
xor_bits-xor_bits [] others same = refl
xor_bits-xor_bits (first ∷ bits) [] same = absurd (omega arith)
xor_bits-xor_bits (first ∷ bits) (other ∷ others) same =
    ap₂ ◌∷◌ (xor-xor first other) (xor_bits-xor_bits bits others (omega arith))

-- one list of positions in place of two: what `outer` selects from a selection by `inner`, with a
-- position past the end of the bits if `outer` goes past the end of `inner`
abbrev pub composed : ℕ → List ℕ → List ℕ → List ℕ
composed past outer inner = map (λ position. slice_index_or inner (position - 1) past) outer

-- a bit of a selection is the bit at the composed position
bit-select : (past : ℕ) (inner : List ℕ) (bits : List Bool) → length bits < past → (position : ℕ)
    → bit (select inner bits) position ≡ bit bits (slice_index_or inner (position - 1) past)
unfolding select
bit-select past inner bits below position =
    let none : bit bits past ≡ false = get_or_past bits (past - 1) false (omega arith) in
    ap (λ d. slice_index_or (map (bit bits) inner) (position - 1) d) (sym none)
    ∙ get_or-map (bit bits) inner (position - 1) past

-- a selection from a selection is the selection by the composed positions
pub select-select : (past : ℕ) (outer inner : List ℕ) (bits : List Bool) → length bits < past
    → select outer (select inner bits) ≡ select (composed past outer inner) bits
unfolding select
select-select past outer inner bits below =
    ap (λ (read : ℕ → Bool). map read outer) (fun_ext (bit-select past inner bits below))
    ∙ sym (map-map (bit bits) (λ position. slice_index_or inner (position - 1) past) outer)

-- n positions after the first k select n bits after the first k
pub select-range_with_len : (k n : ℕ) (bits : List Bool) → k + n ≤ length bits
    → select (range_with_len (k + 1) n) bits ≡ take n (drop k bits)
unfolding select
select-range_with_len k zero bits within = refl
select-range_with_len k (suc n) bits within =
    let first : bit bits (k + 1) ≡ slice_index_or bits k false =
    ap (λ (i : ℕ). slice_index_or bits i false) (omega arith) in
    ap₂ ◌∷◌ first (select-range_with_len (k + 1) n bits (omega arith))
    ∙ sym (ap (take (suc n)) (drop_more bits k false (omega arith)))

-- a selection from a selection whose composed positions count up from 1 is the list of bits
select-composed : (outer inner : List ℕ) (n : ℕ) (bits : List Bool) → length bits ≡ n
    → composed (suc n) outer inner ≡ range_with_len 1 n → select outer (select inner bits) ≡ bits
select-composed outer inner n bits size counts =
    rw (
      select-select (suc n) outer inner bits (omega arith),
      counts,
      select-range_with_len 0 n bits (omega arith),
    )
    (take_all n bits (omega arith))

-- the initial permutation undoes the final one
pub select-initial_permutation : (bits : List Bool) → length bits ≡ 64
    → select initial_permutation (select final_permutation bits) ≡ bits
select-initial_permutation bits size =
    select-composed initial_permutation final_permutation 64 bits size refl

-- the final permutation undoes the initial one
pub select-final_permutation : (bits : List Bool) → length bits ≡ 64
    → select final_permutation (select initial_permutation bits) ≡ bits
select-final_permutation bits size =
    select-composed final_permutation initial_permutation 64 bits size refl
