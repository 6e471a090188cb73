use Rattle.std.proofs.Common.{◌≡◌, ◌*◌, ◌^◌, ◌<◌, ◌++◌, take, drop}
use Rattle.des.specs.Bits.{bits_of, bits_of_word}
use Rattle.des.specs.Tables.{selection_functions}
use Rattle.des.specs.CipherFunction.{substitute, substitute_by}
use Rattle.des.proofs.utils.apply_sboxes.Given as goal

-- the output has four bits for each box so far, and the rest of the boxes make of the rest of the input what is left
abbrev pub invariant-loop-i : goal.invariant-loop-i
invariant-loop-i l = record {
  below : l.output < 2 ^ (4 * l.i);
  substituted :
      bits_of (4 * l.i) l.output
      ++ substitute_by (drop l.i selection_functions) (drop (6 * l.i) (take 48 (bits_of_word l.input)))
      ≡ substitute (take 48 (bits_of_word l.input));
}
