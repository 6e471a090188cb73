use Rattle.std.proofs.Common.{◌≡◌, ◌<◌, ℕ, List, [], length, map, get_or, ap, ◌∙◌, arith}
use Rattle.std.proofs.lemmas.List.{length-map}
use Rattle.std.proofs.lemmas.Simd.{get_or-zip2}
use Rattle.des_mac.proofs.many.masked.zeros_under_each.Goals as goal

pub returns : goal.returns
returns g c k below =
    let bytes = g.C.Key.KeyBytes.bytes_of in
    let keys : List (List ℕ) = map bytes c.args.keys.now in
    let f : List ℕ → List ℕ → List ℕ = g.C.KeyedCipher.encryption in
    let blocks : List (List ℕ) = c.clear.new.blocks in
    let same : length blocks ≡ length c.args.blocks.now = c.clear.auto.blocks in
    let inside : k < length keys = omega (arith, length-map c.args.keys.now bytes, below) in
    let old : k < length c.args.blocks.now = omega (arith, c.requires, below) in
    ap (λ (xs : List (List ℕ)). get_or xs k []) c.encrypt_each.ensures
    ∙ get_or-zip2 f keys blocks k [] [] [] inside (omega (arith, same, old))
    ∙ ap (f (get_or keys k [])) (c.clear.ensures k old)
