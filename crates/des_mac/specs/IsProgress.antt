-- How far a MAC has come in its message.
use Rattle.std.specs.Prelude.{ℕ, ◌-◌, ◌≤◌, List, length}
use Rattle.des_mac.specs.Padding.{block_count}
use Rattle.des_mac.specs.Absorbed.{Absorbed}
use Rattle.des_mac.specs.declared.progress.Progress.{Progress}

-- at most one block is held back
abbrev pub HoldsOneBlock : Progress → Type 0
HoldsOneBlock progress = progress.count ≤ 8

-- all blocks of the bytes m but the last are chained by the encryption, also if that is whole
pub record IsProgressOf (encryption : List ℕ → List ℕ) (progress : Progress) (m : List ℕ)
    : Type 0 where
  pub fits : HoldsOneBlock progress
  pub absorbed : Absorbed encryption (block_count (length m) - 1) progress.chain progress.pending
      progress.count m
