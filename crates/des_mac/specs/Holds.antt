-- What the states of the MACs stand for.
use Rattle.std.specs.Prelude.{ℕ, ◌-◌, List, length}
use Rattle.des.specs.Blocks.{IsKey}
use Rattle.des_mac.specs.Padding.{block_count}
use Rattle.des_mac.specs.Absorbed.{Absorbed}
use Rattle.des_mac.specs.declared.chaining.Chaining.{Chaining}

-- the state stands for the bytes m under the key: its cipher is made from the key, and all blocks of
-- the bytes but the last are chained, also if that is whole. Of the cipher's type are the size of
-- keys, what is made from a key, and how a key encrypts
pub record Holds {Cipher : Type 0} (size : ℕ) (IsMadeFrom : Cipher → List ℕ → Type 0)
    (encryption : List ℕ → List ℕ → List ℕ) (state : Chaining Cipher) (key m : List ℕ)
    : Type 0 where
  pub is_key : IsKey size key
  pub made : IsMadeFrom state.cipher key
  pub absorbed : Absorbed (encryption key) (block_count (length m) - 1) state.chain state.pending
      state.count m
