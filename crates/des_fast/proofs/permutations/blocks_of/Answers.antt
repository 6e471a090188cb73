use Rattle.std.proofs.Common.{◌≡◌, ℕ, suc, ◌+◌, ◌*◌, ◌^◌, ◌<◌, List, ◌++◌, Bool, get_or, w64, lit≤, sym, ap, ap₂, ◌∙◌, arith}
use Rattle.std.specs.Int.{to_le_bytes}
use Rattle.std.specs.Simd.Lanes.{pick_l, digits_l, number_l}
use Rattle.des.specs.Bits.{bits_of_bytes, bits_of_word, select}
use Rattle.des.specs.Tables.{final_permutation}
use Rattle.des.specs.Blocks.{block_of_bits}
use Rattle.des.specs.Laws.BlockBits.{block_of_bits-bits_of_bytes}
use Rattle.des_fast.specs.Groups.{half_positions}
use Rattle.des_fast.specs.declared.permutations.TheConstants.{ODD_GROUPS, EVEN_GROUPS}
use Rattle.des_fast.proofs.PlacedBytes.{IsBlock-to_le_bytes}
use Rattle.des_fast.proofs.Columns.{AreColumns-part, final, bits_of_lane}
use Rattle.des_fast.proofs.permutations.blocks_of.Goals as goal
use Rattle.des_fast.proofs.permutations.blocks_of.Goals.{After-to_le_bytes-2}

-- the bytes of both vectors at some positions
abbrev byte : List ℕ → After-to_le_bytes-2 → ℕ → ℕ
byte positions c i =
    let bytes : List ℕ → List ℕ = λ words. digits_l 256 16 (number_l (2 ^ 64) words) in
    get_or (pick_l 0 (bytes c.args.right ++ bytes c.args.left) positions) i 0

-- the final permutation of the halves in the words of a block
abbrev permuted : List Bool → List Bool → List Bool
permuted right left = select final_permutation (select half_positions right ++ select half_positions left)

bits : (c : After-to_le_bytes-2) (b : ℕ) → b < 2
    → to_le_bytes w64 (get_or c.rows.result b 0)
    ≡ block_of_bits (permuted (bits_of_word (get_or c.args.right b 0)) (bits_of_word (get_or c.args.left b 0)))
bits c (suc (suc b)) within = absurd (omega arith)
bits c b within =
    let word : ℕ = get_or c.rows.result b 0 in
    let even : ℕ → ℕ = byte EVEN_GROUPS c in
    let odd : ℕ → ℕ = byte ODD_GROUPS c in
    let are_even = AreColumns-part even (λ k. get_or c.columns-e.result k 0) c.columns-e.ensures.bits b within in
    let are_odd = AreColumns-part odd (λ k. get_or c.columns-o.result k 0) c.columns-o.ensures.bits b within in
    sym (block_of_bits-bits_of_bytes (to_le_bytes w64 word) (IsBlock-to_le_bytes word))
    ∙ ap block_of_bits
    (ap bits_of_bytes (c.rows.ensures b within)
    ∙ final _ (λ i. even (8 * b + i)) _ (λ i. odd (8 * b + i)) are_even are_odd
    ∙ ap₂ permuted (bits_of_lane c.args.right b c.fits-right within) (bits_of_lane c.args.left b c.fits-left within))

pub returns-clause-first : goal.returns-clause-first
returns-clause-first c = c.to_le_bytes.ensures ∙ bits c 0 (lit≤ tt)

pub returns-clause-second : goal.returns-clause-second
returns-clause-second c = c.to_le_bytes-2.ensures ∙ bits c 1 (lit≤ tt)
