use Rattle.std.proofs.Common.{ℕ, ◌+◌, ◌<◌, ◌≤◌, List, [], ◌∷◌, length, sym, ◌∙◌, arith}
use Rattle.std.specs.Simd.Lanes.{zip2}
use Rattle.std.proofs.lemmas.List.{ext_get_or}
use Rattle.std.proofs.lemmas.Simd.{get_or-zip2}
use Rattle.des.specs.Cbc.{xor_blocks}
use Rattle.des_columns.proofs.ReadValues.{length-zipped}
use Rattle.des_columns.proofs.form.xor_previous.Goals as goal

-- xors at each place are the xor of the lists
pub returns : goal.returns
returns c =
    let ys : List (List ℕ) = c.args.answers.now in
    let zs : List (List ℕ) = c.args.iv.now ∷ c.args.blocks.now in
    let fits : length ys + 1 ≤ length zs = omega (arith, c.requires) in
    ext_get_or [] c.steps.answers (zip2 xor_blocks ys zs)
    (c.steps.invariant.count ∙ sym (length-zipped xor_blocks ys zs (omega (arith, fits)))) (λ m below.
    let inside : m < length ys = omega (arith, below, c.steps.invariant.count) in
    c.steps.invariant.done m (omega (arith, inside))
    ∙ sym (get_or-zip2 xor_blocks ys zs m [] [] [] inside (omega (arith, inside, fits))))
