-- The steps that exchange bits of a word make the standard's selections: they are linear, and right for the words with
-- one bit.
use Rattle.std.proofs.Common.{◌≡◌, ℕ, ◌^◌, ◌<◌, List, [], ◌∷◌, ◌++◌, reverse, refl, ◌∙◌}
use Rattle.std.proofs.lemmas.List.{append-nil}
use Rattle.des.specs.Bits.{bits_of, bits_of_word, zeros, select}
use Rattle.des.specs.Tables.{initial_permutation, final_permutation, permuted_choice_1}
use Rattle.des.specs.SwapForms.{Step, delta_swapped, after_steps, initial_swaps, choice_swaps, swap_form_of_ip, swap_form_of_fp, swap_form_of_pc1}
use Rattle.des.specs.Laws.BitLists.{length-bits_of}
use Rattle.des.specs.Laws.Selections.{select-initial_permutation}
use Rattle.des.proofs.LinearWords.{IsLinear, IsLinear-id, IsLinear-then, IsLinear-shl, IsLinear-shr, IsLinear-mask, IsLinear-xor, select-from_units}

-- a step is linear
IsLinear-delta_swapped : (delta mask : ℕ) → IsLinear (λ x. delta_swapped x delta mask)
unfolding delta_swapped
IsLinear-delta_swapped delta mask =
    let differing = IsLinear-mask mask (IsLinear-xor IsLinear-id (IsLinear-shr delta IsLinear-id)) in
    IsLinear-xor (IsLinear-xor IsLinear-id differing) (IsLinear-shl delta differing)

-- steps are linear
IsLinear-after_steps : (steps : List Step) → IsLinear (after_steps steps)
IsLinear-after_steps [] = IsLinear-id
IsLinear-after_steps (step ∷ steps) = IsLinear-then (IsLinear-delta_swapped step.0 step.1) (IsLinear-after_steps steps)

-- the steps of IP make its selection
pub bits_of_word-swap_form_of_ip : (x : ℕ) → x < 2 ^ 64
    → bits_of_word (swap_form_of_ip x) ≡ select initial_permutation (bits_of_word x)
unfolding bits_of select delta_swapped
bits_of_word-swap_form_of_ip x below =
    select-from_units swap_form_of_ip initial_permutation 0 (IsLinear-after_steps initial_swaps) refl x below
    ∙ append-nil (select initial_permutation (bits_of_word x))

-- the same steps, the last first, make the selection of IP^-1
bits_of_word-swap_form_of_fp : (x : ℕ) → x < 2 ^ 64
    → bits_of_word (swap_form_of_fp x) ≡ select final_permutation (bits_of_word x)
unfolding bits_of select delta_swapped
bits_of_word-swap_form_of_fp x below =
    select-from_units swap_form_of_fp final_permutation 0 (IsLinear-after_steps (reverse initial_swaps)) refl x below
    ∙ append-nil (select final_permutation (bits_of_word x))

-- so IP undoes them
pub select-swap_form_of_fp : (x : ℕ) → x < 2 ^ 64
    → select initial_permutation (bits_of_word (swap_form_of_fp x)) ≡ bits_of_word x
select-swap_form_of_fp x below =
    rw (bits_of_word-swap_form_of_fp x below) (select-initial_permutation (bits_of_word x) (length-bits_of 64 x))

-- the steps of PC-1, with the low eight bits cleared, make its selection
pub bits_of_word-swap_form_of_pc1 : (x : ℕ) → x < 2 ^ 64
    → bits_of_word (swap_form_of_pc1 x) ≡ select permuted_choice_1 (bits_of_word x) ++ zeros 8
unfolding bits_of select delta_swapped
bits_of_word-swap_form_of_pc1 =
    select-from_units swap_form_of_pc1 permuted_choice_1 8
    (IsLinear-mask 0xffffffffffffff00 (IsLinear-after_steps choice_swaps)) refl
