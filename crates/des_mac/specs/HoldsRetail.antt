-- What the state of the retail MAC stands for.
use Rattle.std.specs.Prelude.{ℕ, List, take, drop}
use Rattle.des.specs.Blocks.{IsKey}
use Rattle.des_mac.specs.Holds.{Holds}
use Rattle.des_mac.specs.declared.retail_mac.RetailMac.{RetailMac}

-- it chains the bytes m under the first key of two, and its second cipher is of the other
pub record HoldsRetail {Cipher Padding : Type 0} (size : ℕ) (IsMadeFrom : Cipher → List ℕ → Type 0)
    (encryption : List ℕ → List ℕ → List ℕ) (state : RetailMac Cipher Padding)
    (key m : List ℕ) : Type 0 where
  pub first : Holds size IsMadeFrom encryption state.chaining (take size key) m
  pub second_is_key : IsKey size (drop size key)
  pub second_made : IsMadeFrom state.second (drop size key)
