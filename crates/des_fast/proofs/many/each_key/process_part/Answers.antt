use Rattle.std.proofs.Common.{◌≡◌, ℕ, List, [], length, map, get_or, ap, ◌∙◌, arith}
use Rattle.std.proofs.lemmas.List.{length-map}
use Rattle.des_fast.specs.EachKey.{lane_output}
use Rattle.des_fast.specs.LaneKeys.{block_in}
use Rattle.des_fast.proofs.ZippedParts.{zipped-at}
use Rattle.des_fast.proofs.many.each_key.process_part.Goals as goal

pub returns : goal.returns
returns g c =
    let old : List (List ℕ) = c.args.blocks.now in
    let keys : List (List ℕ) = map g.C.Key.KeyBytes.bytes_of c.args.keys.now in
    let count : length keys ≡ length old = length-map _ _ ∙ c.requires.same in
    zipped-at (block_in c.args.deciphers g.C.KeyedCipher.encryption g.C.KeyedCipher.decryption) keys old
    c.process_lanes_part.new.blocks count c.process_lanes_part.ensures.count
    (λ k below.
    c.process_lanes_part.ensures.lanes k below
    ∙ ap (λ passes. lane_output (g.S.Slice.bit k) passes (get_or old k [])) c.passes.ensures
    ∙ ap (λ (f : List ℕ → List ℕ). f (get_or old k [])) (c.spread_each.ensures k (omega (arith, count))))
