-- The lines of optional blocks, one after another.
use Rattle.std.proofs.Common.{◌≡◌, ℕ, ◌+◌, ◌≤◌, List, [], ◌∷◌, ◌++◌, length, take, Some, None, inl, inr, sym, ap, ◌∙◌}
use Rattle.std.specs.Prelude.{slice_get}
use Rattle.std.proofs.lemmas.List.{take_all, take_more, flat_map_more}
use Rattle.std.proofs.lemmas.Option.{slice_get_cases, slice_get_within, get_or_from_slice_get}
use Rattle.des_lines.specs.KeyBlockLines.{optional_line, optional_lines}

-- there is no block at a place past the last
pub past-last : (blocks : List (List ℕ × List ℕ)) (place : ℕ) → None ≡ slice_get blocks place → length blocks ≤ place
past-last blocks place none = elim (slice_get_cases blocks place).1 [
  | inl there ↦ let bad : None ≡ Some there.0 = none ∙ there.2 in cc bad
  | inr past ↦ past.0
]

module _ (start lines : List ℕ) (blocks : List (List ℕ × List ℕ)) (place : ℕ)
    (so_far : lines ≡ start ++ optional_lines (take place blocks)) where
  -- the line of the block at the place is added
  pub one-more : (block : List ℕ × List ℕ) → Some block ≡ slice_get blocks place
      → lines ++ optional_line block ≡ start ++ optional_lines (take (place + 1) blocks)
  one-more block there =
      let within = slice_get_within blocks place block (sym there) in
      let same = get_or_from_slice_get blocks place block block (sym there) in
      ap (λ (text : List ℕ). text ++ optional_line block) so_far
      ∙ flat_map_more optional_line start (take place blocks) block
      ∙ ap (λ (last : List ℕ × List ℕ). start ++ optional_lines (take place blocks ++ last ∷ [])) (sym same)
      ∙ ap (λ (front : List (List ℕ × List ℕ)). start ++ optional_lines front) (sym (take_more blocks place block within))

  -- these are all
  pub no-more : length blocks ≤ place → lines ≡ start ++ optional_lines blocks
  no-more past =
      so_far ∙ ap (λ (front : List (List ℕ × List ℕ)). start ++ optional_lines front) (take_all place blocks past)
