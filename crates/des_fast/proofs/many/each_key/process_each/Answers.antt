-- A part more.
use Rattle.std.proofs.Common.{◌≡◌, ℕ, ◌+◌, ◌-◌, ◌++◌, List, map, take, drop, ap, sym, ◌∙◌, arith}
use Rattle.std.proofs.lemmas.List.{length-map, take-map, drop-map}
use Rattle.std.specs.Simd.Lanes.{zip2}
use Rattle.des_fast.specs.LaneKeys.{block_in}
use Rattle.des_fast.proofs.ZippedParts.{zipped-more}
use Rattle.des_fast.proofs.many.each_key.process_each.Goals as goal

pub parts-preserved : goal.parts-preserved
parts-preserved g c =
    let m : ℕ = c.parts.from in
    let count : ℕ = c.min-count.result in
    let n : ℕ = m + count - m in
    let bytes = g.C.Key.KeyBytes.bytes_of in
    let f : List ℕ → List ℕ → List ℕ =
    block_in c.args.deciphers g.C.KeyedCipher.encryption g.C.KeyedCipher.decryption in
    let keys : List (List ℕ) = map bytes c.args.keys.now in
    let old : List (List ℕ) = c.args.blocks.now in
    let now : List (List ℕ) = c.parts.blocks in
    let part_of_keys : map bytes (take n (drop m c.args.keys.now)) ≡ take n (drop m keys) =
    sym (ap (take n) (drop-map bytes m c.args.keys.now) ∙ take-map bytes n (drop m c.args.keys.now)) in
    let next : m + n ≡ m + count = omega arith in record {
      within = omega (arith, c.min-count.ensures);
      answered =
          zipped-more f m n keys old now c.process_part.new.blocks
          (length-map c.args.keys.now bytes ∙ c.requires)
          (omega (arith, c.parts.invariant.within)) c.parts.invariant.answered
          (c.process_part.ensures ∙ ap (λ (ks : List (List ℕ)). zip2 f ks (take n (drop m now))) part_of_keys)
          ∙ ap (λ (k : ℕ). zip2 f (take k keys) (take k old) ++ drop k old) next;
    }
