use Rattle.std.proofs.Common.{◌≡◌, ℕ, ◌+◌, ◌^◌, ◌<◌, ◌++◌, length, get_or}
use Rattle.des.specs.Bits.{bits_of, bits_of_word, zeros}
use Rattle.des.specs.KeySchedule.{c_half, d_half, rotate, shifts_through, round_key}
use Rattle.des.proofs.utils.gen_keys.Given as goal

-- the halves are those of the key, rotated by the shifts so far, and a word for each of them holds its round key
abbrev pub invariant-loop-i : goal.invariant-loop-i
invariant-loop-i l = record {
  c_within : l.c < 2 ^ 28;
  d_within : l.d < 2 ^ 28;
  c_rotated : bits_of 28 l.c ≡ rotate (c_half (bits_of_word l.key)) (shifts_through l.i);
  d_rotated : bits_of 28 l.d ≡ rotate (d_half (bits_of_word l.key)) (shifts_through l.i);
  sixteen : length l.keys ≡ 16;
  made : (k : ℕ) → k < l.i → bits_of_word (get_or l.keys k 0) ≡ round_key (bits_of_word l.key) (k + 1) ++ zeros 16;
}
