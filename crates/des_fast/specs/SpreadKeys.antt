-- Keys that are spread over slices once.
use Rattle.std.specs.Prelude.{◌≡◌, ℕ, List, Bool, true, false, take}
use Rattle.des_fast.specs.declared.slices.keys.PassSlices.{PassSlices}
use Rattle.des_fast.specs.declared.many.spread.SpreadKeys.{SpreadKeys}
use Rattle.des_fast.specs.Slices.{InEachBlock}
use Rattle.des_fast.specs.EachKey.{lane_output}

-- of three passes, those that are used: of single DES the first
abbrev pub used : {A : Type 0} → Bool → List (PassSlices A) → List (PassSlices A)
used true passes = passes
used false passes = take 1 passes

-- the passes answer a block so, in each lane of a batch
abbrev pub AreSlicesFor : {A : Type 0} → ℕ → (ℕ → A → Bool) → List (PassSlices A)
    → (List ℕ → List ℕ) → Type 0
AreSlicesFor batch bit passes answer = InEachBlock batch (λ b. lane_output (bit b) passes ≡ answer)

-- the keys encrypt and decrypt a block so
pub record AreSpreadKeys {A : Type 0} (batch : ℕ) (bit : ℕ → A → Bool) (keys : SpreadKeys A)
    (encrypted decrypted : List ℕ → List ℕ) : Type 0 where
  pub encryption : AreSlicesFor batch bit (used keys.encryption.is_triple keys.encryption.passes) encrypted
  pub decryption : AreSlicesFor batch bit (used keys.decryption.is_triple keys.decryption.passes) decrypted
