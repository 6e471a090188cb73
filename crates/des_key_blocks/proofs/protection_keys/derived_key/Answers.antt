use Rattle.std.proofs.Common.{◌≡◌, ℕ, List, ◌++◌, length, take, sym, ap, ap₂, ◌∙◌, inl, inr, arith}
use Rattle.des_key_blocks.specs.ProtectionKeys.{three_parts, derived_part}
use Rattle.des_key_blocks.proofs.KeyParts.{three_parts-of_two, three_parts-of_three}
use Rattle.des_key_blocks.proofs.protection_keys.derived_key.Goals as goal

-- the parts that were derived, of a key of two parts and of three
pub returns : goal.returns
returns c =
    let key : List ℕ = c.args.key.now in
    let usage : ℕ = c.args.usage in
    let first : List ℕ = c.derived_part-first.result in
    let second : List ℕ = c.derived_part-second.result in
    let third : List ℕ = c.third_part.result in
    let last : List ℕ = derived_part usage key 3 in
    let is_first : length first ≡ 8 = omega arith in
    let is_second : length second ≡ 8 = omega arith in
    let is_third : length third ≡ 8 = omega arith in
    let derived = ap₂ (λ (front back : List ℕ). three_parts (take (length key) (front ++ back ++ last)))
    c.derived_part-first.ensures c.derived_part-second.ensures in
    elim c.requires [
      | inl two ↦
          c.joined.ensures
          ∙ ap (λ (back : List ℕ). first ++ second ++ back) (c.third_part.ensures.two two)
          ∙ three_parts-of_two first second last is_first is_second
          ∙ ap (λ n. three_parts (take n (first ++ second ++ last))) (sym two)
          ∙ derived
      | inr three ↦
          c.joined.ensures
          ∙ three_parts-of_three first second third is_first is_second is_third
          ∙ ap (λ (back : List ℕ). three_parts (take 24 (first ++ second ++ back))) (c.third_part.ensures.three three)
          ∙ ap (λ n. three_parts (take n (first ++ second ++ last))) (sym three)
          ∙ derived
    ]
