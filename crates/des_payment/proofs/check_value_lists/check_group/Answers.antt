use Rattle.std.proofs.Common.{◌≡◌, ℕ, List, length, map, take, replicate, ap, ◌∙◌, arith}
use Rattle.std.specs.Simd.Lanes.{zip2}
use Rattle.std.proofs.lemmas.List.{take-replicate}
use Rattle.des_payment.proofs.MappedParts.{zipped-replicate}
use Rattle.des_payment.proofs.check_value_lists.check_group.Goals as goal

-- the block of zeros is encrypted under each key
pub returns : goal.returns
returns g c =
    let zeros : List ℕ = replicate 8 0 in
    let f : List ℕ → List ℕ → List ℕ = g.C.KeyedCipher.encryption in
    let n : ℕ = length c.args.keys.now in
    let group : take n (replicate {A = List ℕ} 256 zeros) ≡ replicate {A = List ℕ} n zeros =
    take-replicate {X = List ℕ} n 256 zeros (omega (arith, c.requires.same, c.requires.few)) in
    c.write_values.ensures
    ∙ ap (map (take 3)) c.encrypt_each_of.ensures
    ∙ ap (λ (blocks : List (List ℕ)). map (take 3) (zip2 f (map g.C.Key.KeyBytes.bytes_of c.args.keys.now) blocks)) group
    ∙ zipped-replicate g.C.Key.KeyBytes.bytes_of f c.args.keys.now zeros
