-- The retail MAC by two relations of blocks whose graphs are known.
use Rattle.std.proofs.Common.{◌≡◌, ℕ, ◌≤◌, List, length, refl, sym, ap, ◌∙◌}
use Rattle.des.specs.Blocks.{AreBytes, IsBlock}
use Rattle.des.specs.Relations.{IsGraphOf, IsTheOne}
use Rattle.des_mac.specs.CbcMac.{cbc_mac}
use Rattle.des_mac.specs.MacRelations.{IsRetailMac}
use Rattle.des_mac.proofs.RelatedMacs.{cbc_mac-related, cbc_mac-relates, IsBlock-cbc_mac}

module _ (forth back : List ℕ → List ℕ) (First Second : List ℕ → List ℕ → Type 0) (first : IsGraphOf forth First)
    (second : IsGraphOf back (λ y x. Second x y)) (m : List ℕ) (bytes : AreBytes m)
    (ends_in_blocks : (x y : List ℕ) → First x y → IsBlock y)
    (begins_in_blocks : (x y : List ℕ) → Second x y → IsBlock x) where
  makes_blocks : (block : List ℕ) → IsBlock block → IsBlock (forth block)
  makes_blocks block is_block = ends_in_blocks block (forth block) ((first block (forth block)).1 (is_block, refl))

  -- the relations hold of the tag, and of no other
  pub IsTheOne-retail_mac : (tag : List ℕ) → 8 ≤ length m → tag ≡ forth (back (cbc_mac forth m))
      → IsTheOne (IsRetailMac First Second m) tag
  IsTheOne-retail_mac tag some same =
      let end : List ℕ = cbc_mac forth m in
      let is_end : IsBlock end = IsBlock-cbc_mac forth First first m bytes makes_blocks in
      let is_back : Second (back end) end = (second end (back end)).1 (is_end, refl) in
      rw same (
        record {
          end = end;
          back = back end;
          is_end = cbc_mac-relates forth First first m bytes makes_blocks some;
          is_back = is_back;
          forth = (first (back end) (forth (back end))).1 (begins_in_blocks _ _ is_back, refl);
        },
        λ other is.
            sym ((first is.back other).0 is.forth).1
            ∙ ap forth (sym ((second is.end is.back).0 is.is_back).1)
            ∙ ap (λ (block : List ℕ). forth (back block)) (cbc_mac-related forth First first m is.end some is.is_end),
      )
