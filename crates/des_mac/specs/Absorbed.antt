-- What the state of a message in pieces has of the message.
use Rattle.std.specs.Prelude.{◌≡◌, ℕ, ◌+◌, ◌*◌, List, length, take, drop}
use Rattle.des_mac.specs.CbcMac.{chain_after}

-- the first n blocks of the bytes are chained, and the other bytes are pending
pub record Absorbed (encryption : List ℕ → List ℕ) (n : ℕ) (chain pending : List ℕ)
    (count : ℕ) (m : List ℕ) : Type 0 where
  pub width : length pending ≡ 8
  pub counted : 8 * n + count ≡ length m
  pub chained : chain ≡ chain_after encryption m n
  pub kept : take count pending ≡ drop (8 * n) m
