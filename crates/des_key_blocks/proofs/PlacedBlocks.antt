-- Which blocks may not fill: those of a list are those of its pairs.
use Rattle.std.proofs.Common.{◌≡◌, ℕ, ◌-◌, ◌%◌, List, length, take, sym, ap, ap₂, ◌∙◌}
use Rattle.std.specs.List.{list_all}
use Rattle.std.specs.Prelude.{◌==◌, not, if◌then◌else◌}
use Rattle.std.proofs.lemmas.List.{length-map, take-map}
use Rattle.std.proofs.lemmas.List.Folds.{list_all-map}
use Rattle.des_key_blocks.specs.OptionalBlocks.{is_filling, are_placed, size_of_all}
use Rattle.des_key_blocks.specs.declared.optional_blocks.OptionalBlock.{OptionalBlock}
use Rattle.des_key_blocks.proofs.OptionalBlockSizes.{pair_of, pairs_of}

pub placed-is : (blocks : List OptionalBlock) (size count : ℕ) → size ≡ size_of_all (pairs_of blocks)
    → count ≡ (if size % 8 == 0 then length blocks - 1 else length blocks)
    → list_all (λ block. not (is_filling (pair_of block))) (take count blocks) ≡ are_placed (pairs_of blocks)
placed-is blocks size count is counted =
    let others = ap₂ (λ (s n : ℕ). if s % 8 == 0 then n - 1 else n) (sym is) (length-map blocks pair_of)
    ∙ sym counted in
    sym (ap (λ n. list_all (λ block. not (is_filling block)) (take n (pairs_of blocks))) others
    ∙ ap (list_all (λ block. not (is_filling block))) (take-map pair_of count blocks)
    ∙ list_all-map (λ block. not (is_filling block)) pair_of (take count blocks))
