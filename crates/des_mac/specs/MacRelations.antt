-- The MACs by a relation of blocks in place of a function, as DES and the triple ciphers are defined:
-- the relation takes a block to its encryption.
use Rattle.std.specs.Prelude.{◌≡◌, ℕ, ◌/◌, List, length}
use Rattle.std.specs.Simd.{first_chunks}
use Rattle.des.specs.Cbc.{CbcUnder, block_at}
use Rattle.des_mac.specs.CbcMac.{zero_block}
use Rattle.des_mac.specs.Cmac.{masked_message}

-- the blocks of padded bytes, in order
abbrev pub blocks_of : List ℕ → List (List ℕ)
blocks_of m = first_chunks 8 (length m / 8) m

-- algorithm 1: the blocks of the padded bytes, chained from a block of zeros, end in the tag
pub record IsCbcMac (Relates : List ℕ → List ℕ → Type 0) (m tag : List ℕ) : Type 0 where
  pub chain : List (List ℕ)
  pub chained : CbcUnder Relates zero_block (blocks_of m) chain
  pub ends : tag ≡ block_at chain (length m / 8)

-- algorithm 3: the end of the chain under the first relation, taken back under the second, and
-- forth under the first again
pub record IsRetailMac (First Second : List ℕ → List ℕ → Type 0) (m tag : List ℕ)
    : Type 0 where
  pub end : List ℕ
  pub back : List ℕ
  pub is_end : IsCbcMac First m end
  pub is_back : Second back end
  pub forth : First back tag

-- CMAC: algorithm 1 of the bytes with their last block masked
pub record IsCmac (Relates : List ℕ → List ℕ → Type 0) (m tag : List ℕ) : Type 0 where
  pub l : List ℕ
  pub of_zeros : Relates zero_block l
  pub chained : IsCbcMac Relates (masked_message l m) tag
