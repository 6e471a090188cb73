-- Passes under keys of bytes, where each block of a batch has a key of its own.
use Rattle.std.specs.Prelude.{◌≡◌, ℕ, ◌<◌, List, [], Bool, true, false, not, ◌∷◌, length, map, reverse, slice_index_or}
use Rattle.des.specs.Bits.{bits_of_bytes}
use Rattle.des.specs.Blocks.{part}
use Rattle.des.specs.KeySchedule.{key_schedule}
use Rattle.des_fast.specs.declared.many.lanes.PassPart.{PassPart}
use Rattle.des_fast.specs.declared.slices.keys.PassSlices.{PassSlices}
use Rattle.des_fast.specs.RoundKeySlices.{round_keys_in}
use Rattle.des_fast.specs.Passes.{block_through_passes}

-- the round keys of a pass under a key of eight bytes, in its order
abbrev pub round_keys_under : Bool → List ℕ → List (List Bool)
round_keys_under false key = key_schedule (bits_of_bytes key)
round_keys_under true key = reverse (key_schedule (bits_of_bytes key))

-- those of passes under parts of a key
abbrev pub round_keys_of_parts : List PassPart → List ℕ → List (List (List Bool))
round_keys_of_parts parts key =
    map (λ p. round_keys_under p.deciphers (part p.number key)) parts

-- the part of a third pass: of two parts the first again
abbrev pub last_part : Bool → ℕ
last_part true = 3
last_part false = 1

-- the parts under which the passes of a triple cipher are, in order: by whether a key has three of
-- them, whether the second pass of encryption deciphers, and whether blocks are deciphered
abbrev pub triple_parts : Bool → Bool → Bool → List PassPart
triple_parts has_three second false =
    record { number = 1; deciphers = false } ∷ record { number = 2; deciphers = second }
    ∷ record { number = last_part has_three; deciphers = false } ∷ []
triple_parts has_three second true =
    record { number = last_part has_three; deciphers = true }
    ∷ record { number = 2; deciphers = not second } ∷ record { number = 1; deciphers = true } ∷ []

-- what passes make of a block in a lane, by the round keys that the slices hold for it
abbrev pub lane_output : {A : Type 0} → (A → Bool) → List (PassSlices A) → List ℕ → List ℕ
lane_output bit passes block = block_through_passes (map (round_keys_in bit) passes) block

-- the first n passes are those under the first n parts of each key, of the key at its place
abbrev pub AreSpreadBelow : {A : Type 0} → (ℕ → A → Bool) → List PassPart → List (List ℕ)
    → List (PassSlices A) → ℕ → Type 0
AreSpreadBelow bit parts keys passes n =
    (m : ℕ) → m < n → (k : ℕ) → k < length keys
    → slice_index_or (map (round_keys_in (bit k)) passes) m []
    ≡ slice_index_or (round_keys_of_parts parts (slice_index_or keys k [])) m []
