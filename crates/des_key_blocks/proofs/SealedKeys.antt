-- The key of what is sealed after a front, and the fault if there is none.
use Rattle.std.proofs.Common.{◌≡◌, ℕ, ◌*◌, ◌≤◌, List, length, Result, Ok, Err, IfOk, sym, ap, ◌∙◌, subst}
use Rattle.std.specs.Prelude.{IsTrue, IsOkAnd, IfErr}
use Rattle.des_key_blocks.specs.KeyBlocks.{key_data, is_key_data, IsSealed, is_key}
use Rattle.des_key_blocks.specs.KeyBlockReading.{HasSealFault}
use Rattle.des_key_blocks.specs.declared.key_block_error.KeyBlockError.{KeyBlockError}
use Rattle.des_key_blocks.specs.declared.key_block_error.KeyBlockError.TheVariants.{KeyLength}
use Rattle.des_key_blocks.specs.declared.key_block_header.Version.{Version}
use Rattle.des_key_blocks.proofs.KeyDataLengths.{key-data-made, key-data-lengths}

module _ (version : Version) (protection front text clear : List ℕ)
    (sealed : IsSealed version protection front clear text) where
  -- the key of clear data is sealed
  pub key-opened : (result : Result (List ℕ) KeyBlockError) (n : ℕ) → length clear ≡ 8 * n → n ≤ 4
      → IfOk result (λ key. (padding : List ℕ) × ((clear ≡ key_data key padding) × IsTrue (is_key key)))
      → IfOk result (λ key. (padding : List ℕ) × (IsTrue (is_key_data key padding)
      × IsSealed version protection front (key_data key padding) text))
  key-opened (Ok key) n count few found = (
    found.0,
    (
      key-data-made key found.0 n found.1.1 (sym (ap length found.1.0) ∙ count) few,
      subst (λ (bytes : List ℕ). IsSealed version protection front bytes text) found.1.0 sealed,
    ),
  )
  key-opened (Err error) n count few found = tt

  -- if they have none, they are no key data
  pub key-fault : (result : Result (List ℕ) KeyBlockError) → IfErr result (λ error. error ≡ KeyLength)
      → ((key padding : List ℕ) → IsTrue (is_key key) → clear ≡ key_data key padding
      → IsOkAnd result (λ opened. opened ≡ key))
      → IfErr result (λ error. HasSealFault protection version front text error)
  key-fault (Ok key) is only = tt
  key-fault (Err error) is only =
      subst (λ (fault : KeyBlockError). HasSealFault protection version front text fault) (sym is) (
        clear,
        (
          sealed,
          λ made.
              only made.0 made.1.0 (key-data-lengths made.0 made.1.0 made.1.1.0).is_key_there made.1.1.1,
        ),
      )
