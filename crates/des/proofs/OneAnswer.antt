-- DES takes each block of 64 bits to exactly one: what the rounds of the key make of it.
use Rattle.std.proofs.Common.{◌≡◌, ℕ, suc, List, ◌++◌, Bool, length, take, drop, sym, ap, ap₂, ◌∙◌, take-append-drop, arith}
use Rattle.des.specs.Bits.{select}
use Rattle.des.specs.Tables.{initial_permutation, final_permutation}
use Rattle.des.specs.KeySchedule.{key_schedule}
use Rattle.des.specs.Enciphering.{half_block, IsDes}
use Rattle.des.specs.Rounds.{after_rounds, swapped, through_rounds}
use Rattle.des.specs.Laws.Selections.{select-initial_permutation, select-final_permutation}
use Rattle.des.specs.Laws.RoundsUndone.{AreHalves, AreHalves-after_rounds, AreHalves-permuted, length-swapped, through_rounds-from_halves, length-through_rounds}
use Rattle.des.proofs.Traces.{trace, half_block-trace_before_last, half_block-trace_last, length-key_schedule, IsTrace-trace, trace_from_IsTrace}

-- the trace of a key ends with the halves after its rounds, in the opposite order
trace-ends : (key left right : List Bool) → let h = trace (key_schedule key) left right in
    half_block h 17 ++ half_block h 16 ≡ swapped (after_rounds (key_schedule key) left right)
trace-ends key left right =
    let at : ℕ → List Bool = half_block (trace (key_schedule key) left right) in
    ap₂ ◌++◌
    (ap (λ n. at (suc n)) (sym (length-key_schedule key)) ∙ half_block-trace_last (key_schedule key) left right)
    (ap at (sym (length-key_schedule key)) ∙ half_block-trace_before_last (key_schedule key) left right)

-- DES takes a block to what the rounds of its key make of it
pub IsDes-through_rounds : (key x : List Bool) → length key ≡ 64 → length x ≡ 64
    → IsDes key x (through_rounds (key_schedule key) x)
unfolding through_rounds
IsDes-through_rounds key x key_width width =
    let left : List Bool = take 32 (select initial_permutation x) in
    let right : List Bool = drop 32 (select initial_permutation x) in
    let last : List Bool × List Bool = after_rounds (key_schedule key) left right in
    let halves : AreHalves (left, right) = AreHalves-permuted x in
    let ends : AreHalves last = AreHalves-after_rounds (key_schedule key) left right halves in
    record {
      key_width = key_width;
      first_width = width;
      last_width = length-through_rounds (key_schedule key) x;
      trace = trace (key_schedule key) left right;
      is_trace = IsTrace-trace key left right halves.0 halves.1;
      begins = sym (take-append-drop 32 (select initial_permutation x));
      ends = select-initial_permutation (swapped last) (length-swapped last ends) ∙ sym (trace-ends key left right);
    }

-- and to nothing else: the trace is the one from its first two half blocks
pub through_rounds-from_IsDes : (key x y : List Bool) → IsDes key x y → through_rounds (key_schedule key) x ≡ y
through_rounds-from_IsDes key x y des =
    let left : List Bool = half_block des.trace 0 in
    let right : List Bool = half_block des.trace 1 in
    let made : des.trace ≡ trace (key_schedule key) left right = trace_from_IsTrace key des.trace des.is_trace in
    let ends : select initial_permutation y ≡ swapped (after_rounds (key_schedule key) left right) =
    des.ends ∙ ap (λ h. half_block h 17 ++ half_block h 16) made ∙ trace-ends key left right in
    through_rounds-from_halves (key_schedule key) x left right (des.is_trace.widths 0 (omega arith)) des.begins
    ∙ ap (select final_permutation) (sym ends)
    ∙ select-final_permutation y des.last_width
