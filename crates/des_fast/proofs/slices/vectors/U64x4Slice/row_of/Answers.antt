-- A block in each of four words.
use Rattle.std.proofs.Common.{ℕ, ◌%◌, List, [], ◌∷◌, get_or, ap, sym, ◌∙◌, arith}
use Rattle.des.specs.Bits.{bits_of_bytes}
use Rattle.des_fast.proofs.BlockRows.{each_of_four, HasBlock}
use Rattle.des_fast.proofs.PlacedBytes.{bits_of_lane-bytes}
use Rattle.des_fast.proofs.slices.vectors.U64x4Slice.row_of.Goals as goal

pub returns : goal.returns
returns c k within at =
    let blocks : List (List ℕ) = c.args.blocks.now in
    sym (bits_of_lane-bytes (c.little_endian_word.result ∷ c.little_endian_word-2.result ∷ c.little_endian_word-3.result ∷ c.little_endian_word-4.result ∷ []) (k % 4))
    ∙ ap bits_of_bytes (each_of_four (HasBlock blocks 4 c.args.n) c.little_endian_word.result c.little_endian_word-2.result c.little_endian_word-3.result c.little_endian_word-4.result
    (c.little_endian_word.ensures ∙ ap (λ (k : ℕ). get_or blocks k []) (omega arith))
    (c.little_endian_word-2.ensures ∙ ap (λ (k : ℕ). get_or blocks k []) (omega arith))
    (c.little_endian_word-3.ensures ∙ ap (λ (k : ℕ). get_or blocks k []) (omega arith))
    (c.little_endian_word-4.ensures ∙ ap (λ (k : ℕ). get_or blocks k []) (omega arith))
    (k % 4) (omega arith) ∙ ap (λ (i : ℕ). get_or blocks i []) (omega arith))
