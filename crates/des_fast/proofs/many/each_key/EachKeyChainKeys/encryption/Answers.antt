-- Lane k has the key of chain `from + k`.
use Rattle.std.proofs.Common.{◌≡◌, ◌≤◌, ℕ, ◌+◌, ◌-◌, List, length, map, take, drop, ap, sym, ◌∙◌, arith, length-take-le}
use Rattle.std.proofs.lemmas.List.{length-map, length-drop}
use Rattle.des_fast.specs.EachKey.{lane_output}
use Rattle.des_fast.proofs.KeysAtPlaces.{under_key-part}
use Rattle.des_fast.proofs.many.each_key.EachKeyChainKeys.encryption.Goals as goal

pub returns : goal.returns
returns g c encryption are k below =
    let bytes = g.C.Key.KeyBytes.bytes_of in
    let keys = c.args.self.now.keys.now in
    let m : ℕ = c.args.from in
    let w : ℕ = m + c.args.count - m in
    let there : m + c.args.count ≤ length keys = omega (arith, c.requires.within.1, c.requires.within.2) in
    let in_part : length (map bytes (take w (drop m keys))) ≡ w =
    length-map (take w (drop m keys)) bytes
    ∙ length-take-le w (drop m keys) (omega (arith, length-drop m keys)) in
    ap (λ (f : ℕ → List ℕ → List ℕ). f (m + k)) are
    ∙ sym (under_key-part bytes g.C.KeyedCipher.encryption keys m w k (omega arith))
    ∙ sym (c.spread_each.ensures k (omega (arith, in_part)))
    ∙ ap (lane_output (g.S.Slice.bit k)) (sym c.passes.ensures)
