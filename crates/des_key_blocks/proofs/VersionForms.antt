-- The vector, by the version of a block: B, or A and C.
use Rattle.std.proofs.Common.{◌≡◌, ℕ, ◌⊎◌, inl, inr, List, take, sym, subst}
use Rattle.des.specs.Cbc.{Cbc}
use Rattle.des_key_blocks.specs.KeyBlocks.{vector_of}
use Rattle.des_key_blocks.specs.declared.key_block_header.Version.{Version}
use Rattle.des_key_blocks.specs.declared.key_block_header.Version.TheVariants.{A, B, C}

module _ (version : Version) (encryption : List ℕ → List ℕ) (header mac : List ℕ) (blocks sealed : List (List ℕ)) where
  abbrev IsCbc : Version → Type 0
  IsCbc v = Cbc encryption (vector_of v header mac) blocks sealed

  pub cbc-in_B : version ≡ B → Cbc encryption mac blocks sealed → IsCbc version
  cbc-in_B is chained = subst IsCbc (sym is) chained

  pub cbc-in_A_or_C : (version ≡ A) ⊎ (version ≡ C) → Cbc encryption (take 8 header) blocks sealed
      → IsCbc version
  cbc-in_A_or_C (inl is) chained = subst IsCbc (sym is) chained
  cbc-in_A_or_C (inr is) chained = subst IsCbc (sym is) chained
