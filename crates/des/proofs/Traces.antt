-- Traces: the half blocks that rounds make, one after another, and that `after_rounds` gives the last two.
use Rattle.std.proofs.Common.{◌≡◌, ℕ, zero, suc, ◌+◌, ◌-◌, ◌<◌, ◌≤◌, List, [], ◌∷◌, Bool, length, refl, ap, ◌∙◌, add-one, one-add, sub-one, arith}
use Rattle.std.proofs.lemmas.List.FromFn.{get_or-map-range_with_len}
use Rattle.des.specs.KeySchedule.{round_key, key_schedule}
use Rattle.des.specs.Enciphering.{half_block, IsTrace}
use Rattle.des.specs.Rounds.{after_rounds}
use Rattle.des.specs.Laws.RoundsUndone.{next_half, length-next_half}

-- the half blocks that a round for each round key makes of two
abbrev following : List (List Bool) → List Bool → List Bool → List (List Bool)
following [] left right = []
following (key ∷ keys) left right = next_half left right key ∷ following keys right (next_half left right key)

-- two half blocks, and after them those that the rounds make
abbrev pub trace : List (List Bool) → List Bool → List Bool → List (List Bool)
trace keys left right = left ∷ right ∷ following keys left right

-- from the third on, each half block is made of the two before it, by the round keys in their order
abbrev IsRun : List (List Bool) → List (List Bool) → Type 0
IsRun keys h = (i : ℕ) → i < length keys
    → half_block h (suc (suc i)) ≡ next_half (half_block h i) (half_block h (suc i)) (half_block keys i)

-- a trace has two half blocks more than rounds
length-trace : (keys : List (List Bool)) (left right : List Bool)
    → length (trace keys left right) ≡ suc (suc (length keys))
length-trace [] left right = refl
length-trace (key ∷ keys) left right = ap suc (length-trace keys right (next_half left right key))

-- its last but one half block is the first half after the rounds
pub half_block-trace_before_last : (keys : List (List Bool)) (left right : List Bool)
    → half_block (trace keys left right) (length keys) ≡ (after_rounds keys left right).0
unfolding after_rounds
half_block-trace_before_last [] left right = refl
half_block-trace_before_last (key ∷ keys) left right =
    half_block-trace_before_last keys right (next_half left right key)

-- its last is the other half after the rounds
pub half_block-trace_last : (keys : List (List Bool)) (left right : List Bool)
    → half_block (trace keys left right) (suc (length keys)) ≡ (after_rounds keys left right).1
unfolding after_rounds
half_block-trace_last [] left right = refl
half_block-trace_last (key ∷ keys) left right = half_block-trace_last keys right (next_half left right key)

-- each half block of a trace has 32 bits
length-half_block-trace : (keys : List (List Bool)) (left right : List Bool) → length left ≡ 32 → length right ≡ 32
    → (i : ℕ) → i < suc (suc (length keys)) → length (half_block (trace keys left right) i) ≡ 32
length-half_block-trace keys left right left_width right_width zero below = left_width
length-half_block-trace keys left right left_width right_width (suc zero) below = right_width
length-half_block-trace [] left right left_width right_width (suc (suc i)) below = absurd (omega arith)
length-half_block-trace (key ∷ keys) left right left_width right_width (suc (suc i)) below =
    let next_width = length-next_half left right key left_width in
    length-half_block-trace keys right (next_half left right key) right_width next_width (suc i) (omega arith)

-- a trace is a run of its round keys
IsRun-trace : (keys : List (List Bool)) (left right : List Bool) → IsRun keys (trace keys left right)
IsRun-trace [] left right i below = absurd (omega arith)
IsRun-trace (key ∷ keys) left right zero below = refl
IsRun-trace (key ∷ keys) left right (suc i) below = IsRun-trace keys right (next_half left right key) i (omega arith)

-- a run is the trace from its first two half blocks
trace_from_run : (keys h : List (List Bool)) → length h ≡ suc (suc (length keys)) → IsRun keys h
    → h ≡ trace keys (half_block h 0) (half_block h 1)
trace_from_run [] (left ∷ right ∷ []) size run = refl
trace_from_run (key ∷ keys) (left ∷ right ∷ next ∷ h) size run =
    let rest : right ∷ next ∷ h ≡ trace keys right next =
    trace_from_run keys (right ∷ next ∷ h) (omega arith) (λ i below. run (suc i) (omega arith)) in
    ap (λ hs. left ∷ hs) (rest ∙ ap (trace keys right) (run 0 (omega arith)))
trace_from_run keys h size run = absurd (omega arith)

-- round key i + 1 is at place i of the key schedule
pub half_block-key_schedule : (key : List Bool) (i : ℕ) → i < 16
    → half_block (key_schedule key) i ≡ round_key key (suc i)
unfolding key_schedule
half_block-key_schedule key i below = get_or-map-range_with_len (round_key key) 1 16 i (suc i) [] below (one-add i)

-- there are sixteen round keys
pub length-key_schedule : (key : List Bool) → length (key_schedule key) ≡ 16
unfolding key_schedule
length-key_schedule key = refl

-- a round of a run of the key schedule, numbered from 1
round_of_run : (key : List Bool) (h : List (List Bool)) → IsRun (key_schedule key) h → (i : ℕ) → 1 ≤ i → i ≤ 16
    → half_block h (i + 1) ≡ next_half (half_block h (i - 1)) (half_block h i) (round_key key i)
round_of_run key h run zero from to = absurd (omega arith)
round_of_run key h run (suc i) from to =
    let here = run i (omega (arith, length-key_schedule key)) in
    let its_key = half_block-key_schedule key i (omega arith) in
    rw (add-one (suc i), sub-one (suc i), ← its_key) here

-- the trace of the key schedule from two half blocks is a trace of the key
pub IsTrace-trace : (key left right : List Bool) → length left ≡ 32 → length right ≡ 32
    → IsTrace key (trace (key_schedule key) left right)
IsTrace-trace key left right left_width right_width = record {
  count = omega (arith, length-trace (key_schedule key) left right, length-key_schedule key);
  widths = λ i below.
      length-half_block-trace _ left right left_width right_width i (omega (arith, length-key_schedule key));
  rounds = round_of_run key (trace (key_schedule key) left right) (IsRun-trace (key_schedule key) left right);
}

-- a trace of a key is a run of its key schedule
IsRun-from_IsTrace : (key : List Bool) (h : List (List Bool)) → IsTrace key h → IsRun (key_schedule key) h
IsRun-from_IsTrace key h t i below =
    let near : i < 16 = omega (arith, length-key_schedule key) in
    let here = t.rounds (suc i) (omega arith) (omega arith) in
    rw (half_block-key_schedule key i near) (rw (add-one (suc i), sub-one (suc i)) at here)

-- a trace of a key is the trace of its key schedule from the first two half blocks
pub trace_from_IsTrace : (key : List Bool) (h : List (List Bool)) → IsTrace key h
    → h ≡ trace (key_schedule key) (half_block h 0) (half_block h 1)
trace_from_IsTrace key h t =
    trace_from_run (key_schedule key) h (omega (arith, t.count, length-key_schedule key)) (IsRun-from_IsTrace key h t)
