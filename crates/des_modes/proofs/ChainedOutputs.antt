-- The output blocks of a feedback are those of OFB, and those of CFB of 64 bits.
use Rattle.std.proofs.Common.{zero-add, suc-add, ◌≡◌, ℕ, zero, suc, ◌+◌, ◌*◌, ◌/◌, ◌%◌, ◌<◌, ◌≤◌, List, [], ◌++◌, length, get_or, take, drop, replicate, bit_xor, refl, ap, sym, ◌∙◌, arith, length-drop, length-take-le, take_at}
use Rattle.std.proofs.Math.Seq.{drop-append-add}
use Rattle.std.proofs.lemmas.List.{get_or-take, get_or-drop, get_or_default, length-replicate}
use Rattle.std.specs.List.{All}
use Rattle.des.specs.Blocks.{IsBlock}
use Rattle.des.specs.Cbc.{xor_blocks}
use Rattle.des.proofs.XoredBlocks.{xor_blocks-from_bytes}
use Rattle.des_fast.specs.ChainingValues.{AreOutputs}
use Rattle.des_fast.proofs.OutputBlocks.{xor_blocks-zeros}
use Rattle.des_modes.specs.Ofb.{output_block}

-- the first of many times one block
pub length-blocks : (block : List ℕ) (most k : ℕ) → k ≤ most → length (take k (replicate most block)) ≡ k
length-blocks block most k few = length-take-le k _ (omega (arith, length-replicate most block))

-- ---- OFB

-- the output blocks go on from one of them
output_block-further : (E : List ℕ → List ℕ) (iv : List ℕ) (m j : ℕ)
    → output_block E (output_block E iv m) j ≡ output_block E iv (j + m)
output_block-further E iv m zero = rw (zero-add m) refl
output_block-further E iv m (suc j) = rw (suc-add j m) (ap E (output_block-further E iv m j))

outputs-from : (E : List ℕ → List ℕ) (v : List ℕ) (q : List (List ℕ)) → AreOutputs E v [] q → All IsBlock q
    → (j : ℕ) → j < length q → get_or q j [] ≡ output_block E v (j + 1)
outputs-from E v q made are_blocks zero below = made 0 below
outputs-from E v q made are_blocks (suc j) below =
    let before : j < length q = omega arith in
    rw (suc-add j 1) (made (suc j) below
    ∙ ap E (xor_blocks-zeros 8 (get_or q j []) (are_blocks j [] before).0 ∙ outputs-from E v q made are_blocks j before))

-- the output blocks of a part behind n bytes, of whole blocks
pub outputs-of_part : (E : List ℕ → List ℕ) (iv last : List ℕ) (n : ℕ) (q : List (List ℕ)) → n % 8 ≡ 0
    → last ≡ output_block E iv ((n + 7) / 8) → AreOutputs E last [] q → All IsBlock q
    → (j : ℕ) → j < length q → get_or q j [] ≡ output_block E iv (j + 1 + n / 8)
outputs-of_part E iv last n q whole is made are_blocks j below =
    let place : (n + 7) / 8 ≡ n / 8 = omega arith in
    outputs-from E last q made are_blocks j below
    ∙ ap (λ (block : List ℕ). output_block E block (j + 1)) (is ∙ ap (output_block E iv) place)
    ∙ output_block-further E iv (n / 8) (j + 1)

-- ---- CFB

-- eight bytes that were xored with a block
chunk-xored : (old new : List ℕ) (blocks : List (List ℕ)) (k : ℕ) → 8 * k + 8 ≤ length old → length new ≡ length old
    → length (get_or blocks k []) ≡ 8
    → ((i : ℕ) → i < length old
    → get_or new i 0 ≡ bit_xor (get_or old i 0) (get_or (get_or blocks ((0 + i) / 8) []) ((0 + i) % 8) 0))
    → take 8 (drop (8 * k) new) ≡ xor_blocks (take 8 (drop (8 * k) old)) (get_or blocks k [])
chunk-xored old new blocks k within same wide xored =
    let before : length (take 8 (drop (8 * k) old)) ≡ 8 = length-take-le 8 _ (omega (arith, length-drop (8 * k) old)) in
    let after : length (take 8 (drop (8 * k) new)) ≡ 8 = length-take-le 8 _ (omega (arith, length-drop (8 * k) new)) in
    xor_blocks-from_bytes (take 8 (drop (8 * k) new)) (take 8 (drop (8 * k) old)) (get_or blocks k []) (omega arith) (omega arith)
    (λ i below.
    let inside : i < 8 = omega arith in
    let quotient : (0 + (8 * k + i)) / 8 ≡ k = omega arith in
    let rest : (0 + (8 * k + i)) % 8 ≡ i = omega arith in
    rw (get_or-take, get_or-drop, get_or-take, get_or-drop) (rw (quotient, rest) at (xored (8 * k + i) (omega arith))))

-- the output blocks along the plaintext are those of the register and the ciphertext behind it
pub outputs-of_plaintext : (E : List ℕ → List ℕ) (register old new : List ℕ) (p q : List (List ℕ)) → AreOutputs E register p q
    → length register ≡ 8 → length new ≡ length old → length p ≡ length old / 8 → length q ≤ (length old + 7) / 8
    → ((k : ℕ) → k < length p → get_or p k [] ≡ take 8 (drop (8 * k) old))
    → All IsBlock q
    → ((i : ℕ) → i < length old
    → get_or new i 0 ≡ bit_xor (get_or old i 0) (get_or (get_or q ((0 + i) / 8) []) ((0 + i) % 8) 0))
    → (j : ℕ) → j < length q → get_or q j [] ≡ E (take 8 (drop (8 * j) (register ++ new)))
outputs-of_plaintext E register old new p q made wide same whole few chunks are_blocks xored zero below =
    made 0 below ∙ ap E (sym (take_at register new 8 wide))
outputs-of_plaintext E register old new p q made wide same whole few chunks are_blocks xored (suc k) below =
    let inside : k < length p = omega arith in
    let shifted : 8 * suc k ≡ length register + 8 * k = omega arith in
    made (suc k) below
    ∙ ap E (
    ap (λ (block : List ℕ). xor_blocks block (get_or q k [])) (get_or_default p k _ [] inside ∙ chunks k inside)
    ∙ sym (chunk-xored old new q k (omega arith) same (are_blocks k [] (omega arith)).0 xored)
    ∙ ap (take 8) (sym (ap (λ (n : ℕ). drop n (register ++ new)) shifted ∙ drop-append-add register new (8 * k)))
    )
