-- CMAC by a relation of blocks whose graph is known.
use Rattle.std.proofs.Common.{◌≡◌, ℕ, ◌-◌, ◌<◌, ◌≤◌, List, length, take, drop, inl, inr, refl, sym, ap, ◌∙◌, arith, length-append, length-drop}
use Rattle.std.proofs.Math.Nat.{eq-or-lt_of_le}
use Rattle.std.proofs.lemmas.List.Elements.{All-take, All-drop, All-append}
use Rattle.des.specs.Blocks.{AreBytes, IsBlock}
use Rattle.des.specs.Cbc.{xor_blocks}
use Rattle.des.specs.Relations.{IsGraphOf, IsTheOne}
use Rattle.des.specs.Laws.BlockBits.{IsBlock-to_be_bytes}
use Rattle.des.proofs.XoredBlocks.{IsBlock-xor_blocks}
use Rattle.des_mac.specs.Padding.{last_count, AreWholeBlocks, one_bit_after, padded}
use Rattle.des_mac.specs.CbcMac.{zero_block, cbc_mac}
use Rattle.des_mac.specs.Cmac.{doubled, subkey_1, subkey_2, masked, masked_message, cmac}
use Rattle.des_mac.specs.MacRelations.{IsCmac}
use Rattle.des_mac.specs.Laws.Paddings.{AreWholeBlocks-one_bit_after}
use Rattle.des_mac.proofs.MaskedTags.{masked_message-whole, masked_message-part, AreWholeBlocks-full}
use Rattle.des_mac.proofs.PaddedBytes.{CanChain, CanChain-one_bit_after}
use Rattle.des_mac.proofs.RelatedMacs.{IsBlock-zero_block, cbc_mac-related, cbc_mac-relates}

pub IsBlock-doubled : (block : List ℕ) → IsBlock (doubled block)
unfolding doubled
IsBlock-doubled block = IsBlock-to_be_bytes _

CanChain-masked : (subkey m : List ℕ) → IsBlock subkey → AreBytes m → AreWholeBlocks (length m)
    → CanChain (masked subkey m)
unfolding masked
CanChain-masked subkey m is_subkey bytes whole =
    let front : List ℕ = take (length m - 8) m in
    let last : List ℕ = drop (length m - 8) m in
    let IsByte : ℕ → Type 0 = λ byte. byte < 256 in
    let is_last : IsBlock (drop (length m - 8) m) = (
      omega (arith, length-drop (length m - 8) m, whole.1),
      All-drop IsByte (length m - 8) m bytes,
    ) in
    let is_masked = IsBlock-xor_blocks last subkey is_last is_subkey in (
      All-append IsByte front (xor_blocks last subkey) (All-take IsByte (length m - 8) m bytes) is_masked.1,
      omega (arith, length-append front (xor_blocks last subkey), is_masked.0),
    )

CanChain-masked_message : (l m : List ℕ) → AreBytes m → CanChain (masked_message l m)
CanChain-masked_message l m bytes =
    let most : last_count (length m) ≤ 8 = omega arith in
    elim (eq-or-lt_of_le most) [
      | inl full ↦
          rw (masked_message-whole l m full)
          (CanChain-masked (subkey_1 l) m (IsBlock-doubled l) bytes (AreWholeBlocks-full m full))
      | inr part ↦
          let whole : AreWholeBlocks (length (padded one_bit_after m)) =
          rw (length-append m (one_bit_after (length m))) (AreWholeBlocks-one_bit_after (length m)) in
          rw (masked_message-part l m part)
          (CanChain-masked (subkey_2 l) (padded one_bit_after m) (IsBlock-doubled (subkey_1 l))
          (CanChain-one_bit_after m bytes).0 whole)
    ]

module _ (e : List ℕ → List ℕ) (Relates : List ℕ → List ℕ → Type 0) (graph : IsGraphOf e Relates) (m : List ℕ)
    (bytes : AreBytes m)
    (ends_in_blocks : (x y : List ℕ) → Relates x y → IsBlock y) where
  makes_blocks : (block : List ℕ) → IsBlock block → IsBlock (e block)
  makes_blocks block is_block = ends_in_blocks block (e block) ((graph block (e block)).1 (is_block, refl))

  -- the relation holds of the tag, and of no other
  pub IsTheOne-cmac : (tag : List ℕ) → tag ≡ cmac e m → IsTheOne (IsCmac Relates m) tag
  IsTheOne-cmac tag same =
      let l : List ℕ = e zero_block in
      let chains = CanChain-masked_message l m bytes in
      rw same (
        record {
          l = l;
          of_zeros = (graph zero_block l).1 (IsBlock-zero_block, refl);
          chained = cbc_mac-relates e Relates graph (masked_message l m) chains.0 makes_blocks chains.1;
        },
        λ other is.
            cbc_mac-related e Relates graph (masked_message is.l m) other (CanChain-masked_message is.l m bytes).1
            is.chained
            ∙ ap (λ (zeros : List ℕ). cbc_mac e (masked_message zeros m))
            (sym ((graph zero_block is.l).0 is.of_zeros).1),
      )
