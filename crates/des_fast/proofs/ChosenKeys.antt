-- The round keys of a key are those of the bits that the code chooses of it.
use Rattle.std.proofs.Common.{◌≡◌, ℕ, Bool, true, false, List, length, map, reverse, refl, ap, subst, ◌∙◌, arith}
use Rattle.std.specs.List.{range_with_len}
use Rattle.std.proofs.lemmas.List.{take_all}
use Rattle.des.specs.Bits.{bit, bits_of_bytes, select}
use Rattle.des.specs.Tables.{final_permutation}
use Rattle.des.specs.KeySchedule.{c_half, d_half, rotate, shifts_through, round_key, key_schedule}
use Rattle.des.specs.Laws.Selections.{select-range_with_len}
use Rattle.des_fast.specs.declared.slices.keys.TheConstants.{PERMUTED_CHOICE_1}
use Rattle.des_fast.specs.RoundKeySlices.{round_keys_by}
use Rattle.des_fast.specs.EachKey.{round_keys_under}
use Rattle.des_fast.proofs.ScheduledHalves.{round_keys_by-direction}

-- whatever the bits of the key are, and so those of its halves after the initial permutation
round_keys_by-listed : (value : ℕ → Bool)
    → let halves = map value (range_with_len 1 64) in
    round_keys_by (select PERMUTED_CHOICE_1 halves) false ≡ key_schedule (select final_permutation halves)
unfolding key_schedule round_key shifts_through c_half d_half rotate select
round_keys_by-listed value = refl

round_keys_by-chosen : (halves : List Bool) → length halves ≡ 64
    → round_keys_by (select PERMUTED_CHOICE_1 halves) false ≡ key_schedule (select final_permutation halves)
unfolding select
round_keys_by-chosen halves width =
    subst (λ bits. round_keys_by (select PERMUTED_CHOICE_1 bits) false ≡ key_schedule (select final_permutation bits))
    (select-range_with_len 0 64 halves (omega arith) ∙ take_all 64 halves (omega arith)) (round_keys_by-listed (bit halves))

-- in each order
pub round_keys_under-chosen : (deciphers : Bool) (halves : List Bool) (key : List ℕ) → length halves ≡ 64
    → select final_permutation halves ≡ bits_of_bytes key
    → round_keys_by (select PERMUTED_CHOICE_1 halves) deciphers ≡ round_keys_under deciphers key
round_keys_under-chosen false halves key width are = round_keys_by-chosen halves width ∙ ap key_schedule are
round_keys_under-chosen true halves key width are =
    round_keys_by-direction true (select PERMUTED_CHOICE_1 halves)
    ∙ ap reverse (round_keys_by-chosen halves width ∙ ap key_schedule are)
