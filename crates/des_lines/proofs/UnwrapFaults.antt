-- What is known of a block that holds a key, and how the lines of such a block fail.
use Rattle.std.proofs.Common.{◌≡◌, ℕ, List, None, Result, Err, inr}
use Rattle.std.specs.declared.vec.Vec.{Vec}
use Rattle.std.specs.declared.alloc.Global.{Global}
use Rattle.des_key_blocks.specs.KeyBlocks.{HoldsKey}
use Rattle.des_key_blocks.specs.declared.key_block_header.Header.{Header}
use Rattle.des_key_blocks.proofs.KeyDataLengths.{key-data-sealed}
use Rattle.des_lines.specs.declared.fault.FaultKind.{FaultKind}
use Rattle.des_lines.specs.declared.fault.FaultKind.TheVariants.{Memory}
use Rattle.des_lines.specs.Texts.{bytes_of}
use Rattle.des_lines.specs.KeyBlockLines.{IsReadable, protection_fault, FailsAsUnwrapped}

module _ (protection block : List ℕ) (header : Header) (key : List ℕ) (holds : HoldsKey protection block header key) where
  -- it can be read without its key
  pub key_block-readable : IsReadable header holds.0 block
  key_block-readable =
      let is = holds.1.1 in (
        is.front,
        (
          is.sealed,
          (
            is.parts,
            key-data-sealed header.version protection is.front key holds.1.0 is.sealed is.is_clear is.is_sealed,
          ),
        ),
      )

module _ (protection block : List ℕ) (header : Header) (key : List ℕ) (none : protection_fault protection ≡ None)
    (holds : HoldsKey (bytes_of protection) block header key) where
  -- nothing is at fault, and memory is refused
  pub unwrap-refuses-memory : (result : Result (Vec ℕ Global) FaultKind) (kind : FaultKind) → result ≡ Err kind → kind ≡ Memory
      → FailsAsUnwrapped protection block result
  unwrap-refuses-memory result kind was memory = rw none (inr (header, (key, (holds, rw was memory))))
