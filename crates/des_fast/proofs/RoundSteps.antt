-- The steps of a round on slices.
use Rattle.std.proofs.Common.{◌≡◌, ℕ, ◌*◌, Bool, List, map, take, drop, ap, ap₂, ◌∙◌}
use Rattle.des.specs.Bits.{bits_of}
use Rattle.des.specs.Tables.{Box}
use Rattle.des.specs.CipherFunction.{box_entry}
use Rattle.des_fast.specs.Slices.{xor_at}
use Rattle.des_fast.proofs.CipherFunctionByGroups.{entry}

-- the step of box n of a round: its entry is xored into what the steps before made
pub bits-step : {A : Type 0} (bit : A → Bool) (n : ℕ) (box : Box) (indexes : List ℕ)
    (before after group entries : List A)
    (left mixed : List Bool)
    → map bit before ≡ left
    → map bit group ≡ take 6 (drop (6 * n) mixed)
    → map bit entries ≡ bits_of 4 (box_entry box (map bit group))
    → map bit after ≡ xor_at (map bit before) indexes (map bit entries)
    → map bit after ≡ xor_at left indexes (bits_of 4 (entry box n mixed))
bits-step bit n box indexes before after group entries left mixed so_far grouped replaced xored =
    let replaced_group : map bit entries ≡ bits_of 4 (entry box n mixed) =
    replaced ∙ ap (λ (bits : List Bool). bits_of 4 (box_entry box bits)) grouped in
    xored ∙ ap₂ (λ (bits : List Bool) (changes : List Bool). xor_at bits indexes changes) so_far replaced_group
