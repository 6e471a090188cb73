-- A block that holds a key, from its parts and what is sealed in it, both ways; the first fault of one that holds none.
use Rattle.std.proofs.Common.{◌≡◌, ℕ, inr, List, length, take, drop, sym, ◌∙◌, subst}
use Rattle.std.specs.Prelude.{IsTrue}
use Rattle.des_key_blocks.specs.KeyBlocks.{key_data, is_protection_key, HasParts, IsSealed, IsKeyBlock}
use Rattle.des_key_blocks.specs.KeyBlockReading.{is_sealed_length, HasPartsSo, HasSealFault, HasFault}
use Rattle.des_key_blocks.specs.declared.key_block_error.KeyBlockError.{KeyBlockError}
use Rattle.des_key_blocks.specs.declared.key_block_error.KeyBlockError.TheVariants.{ProtectionKeyLength}
use Rattle.des_key_blocks.specs.declared.key_block_header.Header.{Header}
use Rattle.des_key_blocks.specs.declared.key_block_header.Version.{Version}
use Rattle.des_key_blocks.proofs.BlockParts.{front-there, rest-there}

-- a fault of what is sealed is the block's
stage-fault : (protection block : List ℕ) (error : KeyBlockError) → IsTrue (is_protection_key protection)
    → HasPartsSo (λ version front rest. IsTrue (is_sealed_length version (length rest))
    × HasSealFault protection version front rest error) block → HasFault protection block error
stage-fault protection block ProtectionKeyLength is fault = absurd fault.fact.1
stage-fault protection block _ is fault = (is, inr fault)

module _ (protection block front rest : List ℕ) (size : ℕ) (is_front : front ≡ take size block)
    (is_rest : rest ≡ drop size block) where
  -- what is sealed in a block that holds a key, after the front that was found
  pub sealed-there : (version : Version) (header : Header) (blocks : List (List ℕ × List ℕ)) (key padding : List ℕ)
      → (is : IsKeyBlock protection header blocks key padding block) → size ≡ length is.front
      → version ≡ header.version → IsSealed version protection front (key_data key padding) rest
  sealed-there version header blocks key padding is count same =
      let fronts : is.front ≡ front =
      sym (is_front ∙ front-there block is.front is.sealed size is.parts.is_block count) in
      let rests : is.sealed ≡ rest =
      sym (is_rest ∙ rest-there block is.front is.sealed size is.parts.is_block count) in
      subst (λ (v : Version). IsSealed v protection front (key_data key padding) rest) (sym same)
      (subst (λ (r : List ℕ). IsSealed header.version protection front (key_data key padding) r) rests
      (subst (λ (f : List ℕ). IsSealed header.version protection f (key_data key padding) is.sealed) fronts
      is.is_sealed))

  parts-moved : (header : Header) (blocks : List (List ℕ × List ℕ))
      → HasParts header blocks (take size block) (drop size block) block → HasParts header blocks front rest block
  parts-moved header blocks parts =
      subst (λ (r : List ℕ). HasParts header blocks front r block) (sym is_rest)
      (subst (λ (f : List ℕ). HasParts header blocks f (drop size block) block) (sym is_front) parts)

  -- the fault of what is sealed there is the block's
  pub seal-fault : (header : Header) (blocks : List (List ℕ × List ℕ)) (error : KeyBlockError)
      → HasParts header blocks (take size block) (drop size block) block → IsTrue (is_protection_key protection)
      → IsTrue (is_sealed_length header.version (length rest))
      → HasSealFault protection header.version front rest error → HasFault protection block error
  seal-fault header blocks error parts is_protection sealed fault =
      stage-fault protection block error is_protection (record {
        header = header;
        blocks = blocks;
        front = front;
        rest = rest;
        parts = parts-moved header blocks parts;
        fact = (sealed, fault);
      })
