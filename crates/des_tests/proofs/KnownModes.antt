-- The definitions, computed at values from outside: the example of FIPS 81 (appendices C and D) in CFB-64, CFB-8, CFB-1
-- and OFB, under the key 01 23 .. ef from the vector 12 34 56 78 90 ab cd ef, of the text "Now is the time for all "; and
-- a counter that wraps.
use Rattle.std.proofs.Common.{false, ◌≡◌, ℕ, suc, ◌+◌, ◌*◌, ◌/◌, ◌%◌, ◌<◌, ◌≤◌, List, [], ◌∷◌, map, length, get_or, take, bit_xor, refl, ap, subst, arith}
use Rattle.std.specs.Int.{w32, w64, to_be_bytes}
use Rattle.std.specs.List.{flat_map, range_with_len}
use Rattle.std.proofs.lemmas.List.FromFn.{get_or-map-range_with_len}
use Rattle.std.proofs.lemmas.Nat.{div_below}
use Rattle.des.specs.Bits.{xor, bits_of, bits_of_bytes, number_of, select, xor_bits}
use Rattle.des.specs.Blocks.{block_of_bits}
use Rattle.des.specs.CipherFunction.{box_entry, substitute_by, cipher_function}
use Rattle.des.specs.KeySchedule.{c_half, d_half, rotate, shifts_through, round_key, key_schedule}
use Rattle.des.specs.Cbc.{xor_blocks}
use Rattle.des.specs.TripleCiphers.{ede3_encryption}
use Rattle.des.specs.Rounds.{after_rounds, through_rounds}
use Rattle.des_modes.specs.Cfb.{Cfb, CfbBits, cfb_bits, input_block}
use Rattle.des_modes.specs.Ctr.{counter_block}
use Rattle.des_modes.specs.Ofb.{Ofb, output_block}
use Rattle.des_modes.specs.Streams.{Xors}
use Rattle.des_key_wraps.specs.Tkw.{tkw}
use Rattle.des_modes.specs.declared.modes.TheConstants.{CTR, OFB, CFB1}
use Rattle.des_modes.proofs.Pieces.{Xors-none, Xors-single, Xors-other, Xors-append}

-- the numbers of the modes, which callers in other languages have as literals
numbers : (CTR ≡ 31) × (OFB ≡ 32) × (CFB1 ≡ 40)
numbers = (refl, refl, refl)

-- elements under the xor with a key stream from element n on
abbrev xored : {A : Type 0} → (A → A → A) → (ℕ → A) → ℕ → List A → List A
xored op k n [] = []
xored op k n (x ∷ xs) = op x (k n) ∷ xored op k (suc n) xs

Xors-xored : {A : Type 0} (op : A → A → A) (none : A) (k : ℕ → A) (n : ℕ) (p : List A) → Xors op none n k p (xored op k n p)
Xors-xored op none k n [] = Xors-none n k
Xors-xored op none k n (x ∷ xs) =
    Xors-append n (suc n) k (x ∷ []) (op x (k n) ∷ []) xs (xored op k (suc n) xs) (omega arith)
    (Xors-single n k x (op x (k n)) refl) (Xors-xored op none k (suc n) xs)

Xors-computed : {A : Type 0} (op : A → A → A) (none : A) (k : ℕ → A) (p c : List A) → xored op k 0 p ≡ c → Xors op none 0 k p c
Xors-computed op none k p c same = subst (Xors op none 0 k p) same (Xors-xored op none k 0 p)

-- by the first s bytes of output blocks, each of which is computed once
Xors-outputs : {p c : List ℕ} (output : List ℕ → ℕ → List ℕ) (s : ℕ) (outputs : List (List ℕ)) → 1 ≤ s → length p ≤ s * length outputs
    → map (output c) (range_with_len 0 (length outputs)) ≡ outputs
    → xored bit_xor (λ i. get_or (get_or outputs (i / s) []) (i % s) 0) 0 p ≡ c
    → Xors bit_xor 0 0 (λ i. get_or (output c (i / s)) (i % s) 0) p c
Xors-outputs {p} {c} output s outputs some enough are same =
    Xors-other 0 _ _ p c
    (λ i below.
    let j : ℕ = (0 + i) / s in
    let within : j < length outputs = div_below (0 + i) s (length outputs) some (omega arith) in
    ap (λ (block : List ℕ). get_or block ((0 + i) % s) 0)
    (rw are at (get_or-map-range_with_len (output c) 0 (length outputs) j j [] within (omega arith))))
    (Xors-computed bit_xor 0 (λ i. get_or (get_or outputs (i / s) []) (i % s) 0) p c same)

-- the blocks and the bytes of words of 64 bits
abbrev blocks : List ℕ → List (List ℕ)
blocks words = map (to_be_bytes w64) words

abbrev bytes : List ℕ → List ℕ
bytes words = flat_map (to_be_bytes w64) words

-- the vector and the text
abbrev vector : List ℕ
vector = to_be_bytes w64 0x1234567890abcdef

abbrev text : List ℕ
text = bytes (0x4e6f772069732074 ∷ 0x68652074696d6520 ∷ 0x666f7220616c6c20 ∷ [])

-- DES under the key
encryption : List ℕ → List ℕ
encryption block = block_of_bits (through_rounds (key_schedule (bits_of 64 0x0123456789abcdef)) (bits_of_bytes block))

-- of CFB-8 the first eight bytes, and of CFB-1 the bits of the first; in segments of 48 bits from OpenSSL's
-- test/destest.c
known_streams : Ofb encryption vector text (bytes (0xf3096249c7f46e51 ∷ 0x35f24a242eeb3d3f ∷ 0x3d6d5be3255af8c3 ∷ []))
    × Cfb 8 encryption vector text (bytes (0xf3096249c7f46e51 ∷ 0xa69e839b1a92f784 ∷ 0x03467133898ea622 ∷ []))
    × Cfb 6 encryption vector text (bytes (0xf3096249c7f430b5 ∷ 0x15ecbb85975a138c ∷ 0x6860e238343cdc1f ∷ []))
    × Cfb 1 encryption vector (take 8 text) (bytes (0xf31fda07011462ee ∷ []))
    × CfbBits 1 encryption vector (bits_of_bytes (0x4e ∷ [])) (bits_of_bytes (0xcd ∷ []))
unfolding encryption bits_of bits_of_bytes block_of_bits select substitute_by box_entry number_of cipher_function xor_bits
    round_key c_half d_half rotate shifts_through key_schedule after_rounds through_rounds
known_streams = (
  Xors-outputs (λ c j. output_block encryption vector (j + 1)) 8
      (blocks (0xbd661569ae874e25 ∷ 0x5d976a504786581f ∷ 0x5b0229c3443694e3 ∷ [])) (omega arith) (omega arith) refl refl,
  Xors-outputs (λ c j. encryption (input_block 8 vector c j)) 8
      (blocks (0xbd661569ae874e25 ∷ 0xcefba3ef73ff92a4 ∷ 0x65290313e8e2ca02 ∷ [])) (omega arith) (omega arith) refl refl,
  Xors-outputs (λ c j. encryption (input_block 6 vector c j)) 6
      (blocks (0xbd661569ae874e25 ∷ 0x10c17d899bf1a776 ∷ 0xfe3776ac0e0fdfb3 ∷ 0x90185550b03f1a82 ∷ []))
      (omega arith) (omega arith) refl refl,
  Xors-computed bit_xor 0 _ (take 8 text) _ refl,
  Xors-computed xor false (cfb_bits 1 encryption vector (bits_of_bytes (0xcd ∷ []))) (bits_of_bytes (0x4e ∷ []))
      (bits_of_bytes (0xcd ∷ [])) refl,
)

known_counter : counter_block (to_be_bytes w64 0xfffffffffffffffe) 3 ≡ to_be_bytes w64 1
known_counter = refl

-- a value of NIST's validation program for key wrap, of TKW with three keys
known_tkw : tkw (ede3_encryption (bytes (0x12b84c663120c196 ∷ 0xf8fc17428bc86a11 ∷ 0x0d92cc7c4d3cb695 ∷ [])))
    (to_be_bytes w32 0xef7da3da ∷ to_be_bytes w32 0x918d0679 ∷ [])
    ≡ to_be_bytes w32 0x7a72bbca ∷ to_be_bytes w32 0x3aa323aa ∷ to_be_bytes w32 0x1ac231ba ∷ []
unfolding xor_blocks bits_of bits_of_bytes block_of_bits select substitute_by box_entry number_of cipher_function xor_bits
    round_key c_half d_half rotate shifts_through key_schedule after_rounds through_rounds
known_tkw = refl
