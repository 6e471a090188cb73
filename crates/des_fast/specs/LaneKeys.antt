-- Keys of the lanes of a batch, each lane's own.
use Rattle.std.specs.Prelude.{◌≡◌, ℕ, ◌<◌, List, [], Bool, true, false, length, slice_index_or}
use Rattle.des_fast.specs.declared.many.lanes.LaneKeys.{LaneKeys}
use Rattle.des_fast.specs.SpreadKeys.{used}
use Rattle.des_fast.specs.EachKey.{lane_output}

-- of what a cipher answers in its two directions, that of decryption if it is asked for
abbrev pub block_in : Bool → (List ℕ → List ℕ → List ℕ) → (List ℕ → List ℕ → List ℕ)
    → List ℕ → List ℕ → List ℕ
block_in false encryption decryption = encryption
block_in true encryption decryption = decryption

-- the lanes answer a block so, each under the key at its place
abbrev pub RelateLanes : {A : Type 0} → (ℕ → A → Bool) → LaneKeys A → (List ℕ → List ℕ → List ℕ)
    → List (List ℕ) → Type 0
RelateLanes bit lanes answer keys =
    (k : ℕ) → k < length keys
    → lane_output (bit k) (used lanes.is_triple lanes.passes) ≡ answer (slice_index_or keys k [])
