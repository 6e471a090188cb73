-- What the paddings make of bytes.
use Rattle.std.proofs.Common.{◌≡◌, ℕ, suc, ◌+◌, ◌-◌, ◌*◌, ◌%◌, length, ap, arith}
use Rattle.std.proofs.lemmas.List.{length-replicate}
use Rattle.des_mac.specs.Padding.{block_count, AreWholeBlocks, zeros_after, one_bit_after}

pub AreWholeBlocks-zeros_after : (n : ℕ) → AreWholeBlocks (n + length (zeros_after n))
AreWholeBlocks-zeros_after n =
    let zeros : length (zeros_after n) ≡ block_count n * 8 - n =
    length-replicate (block_count n * 8 - n) 0 in
    (omega arith, omega arith)

pub AreWholeBlocks-one_bit_after : (n : ℕ) → AreWholeBlocks (n + length (one_bit_after n))
AreWholeBlocks-one_bit_after n =
    let zeros : length (one_bit_after n) ≡ suc (7 - n % 8) =
    ap suc (length-replicate (7 - n % 8) 0) in
    (omega arith, omega arith)
