use Rattle.std.proofs.Common.{◌≡◌, ℕ, ◌<◌, inl, inr, get_or, lit<, refl, ap, sym, ◌∙◌, arith}
use Rattle.std.specs.Int.{w64, swap_bytes, to_be_bytes, to_le_bytes}
use Rattle.std.proofs.lemmas.Bool.{cases_lt}
use Rattle.std.proofs.lemmas.List.{get_or_past}
use Rattle.std.proofs.lemmas.Nat.{le_bytes_8}
use Rattle.des.specs.Blocks.{block_of_bits}
use Rattle.des.specs.Laws.BitLists.{number_of-bits_of_word}
use Rattle.des.specs.Laws.BlockBits.{AreBytes-bytes_high_first}
use Rattle.des_fast.proofs.halves.block_of.Goals as goal

-- the bytes of a number are bytes
small : (n i : ℕ) → get_or (to_be_bytes w64 n) i 0 < 256
small n i = elim (cases_lt i 8) [
  | inl below ↦ AreBytes-bytes_high_first 8 n i 0 below
  | inr past ↦ rw (get_or_past (to_be_bytes w64 n) i 0 past) (lit< tt)
]

-- the first byte of the one order is the last of the other
to_le_bytes-swap_bytes : (n : ℕ) → to_le_bytes w64 (swap_bytes w64 n) ≡ to_be_bytes w64 n
to_le_bytes-swap_bytes n = le_bytes_8 (to_be_bytes w64 n) (swap_bytes w64 n) refl (small n) (omega arith)

pub returns : goal.returns
unfolding block_of_bits
returns c =
    c.to_le_bytes.ensures
    ∙ ap (to_le_bytes w64) c.swap_bytes.ensures
    ∙ to_le_bytes-swap_bytes c.args.word
    ∙ ap (to_be_bytes w64) (sym (number_of-bits_of_word c.args.word (omega arith)))
