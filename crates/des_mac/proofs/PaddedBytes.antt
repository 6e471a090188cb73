-- Padded bytes as bytes that can be chained.
use Rattle.std.proofs.Common.{ℕ, ◌-◌, ◌*◌, ◌%◌, ◌<◌, ◌≤◌, List, length, arith, length-append}
use Rattle.std.proofs.lemmas.List.Elements.{All-append, All-cons, All-replicate}
use Rattle.des.specs.Blocks.{AreBytes}
use Rattle.des_mac.specs.Padding.{block_count, zeros_after, one_bit_after, padded}
use Rattle.des_mac.specs.Laws.Paddings.{AreWholeBlocks-zeros_after, AreWholeBlocks-one_bit_after}

-- they are bytes, a block at least
abbrev pub CanChain : List ℕ → Type 0
CanChain m = AreBytes m × (8 ≤ length m)

pub CanChain-zeros_after : (m : List ℕ) → AreBytes m → CanChain (padded zeros_after m)
CanChain-zeros_after m bytes =
    let IsByte : ℕ → Type 0 = λ byte. byte < 256 in (
      All-append IsByte m (zeros_after (length m)) bytes
          (All-replicate IsByte (block_count (length m) * 8 - length m) 0 (omega arith)),
      omega (arith, length-append m (zeros_after (length m)), (AreWholeBlocks-zeros_after (length m)).1),
    )

pub CanChain-one_bit_after : (m : List ℕ) → AreBytes m → CanChain (padded one_bit_after m)
CanChain-one_bit_after m bytes =
    let IsByte : ℕ → Type 0 = λ byte. byte < 256 in (
      All-append IsByte m (one_bit_after (length m)) bytes
          (All-cons IsByte 0x80 _ (omega arith) (All-replicate IsByte (7 - length m % 8) 0 (omega arith))),
      omega (arith, length-append m (one_bit_after (length m)), (AreWholeBlocks-one_bit_after (length m)).1),
    )
