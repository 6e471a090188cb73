-- The pass of one part more.
use Rattle.std.proofs.Common.{◌≡◌, ℕ, List, [], Bool, false, map, get_or, sym, ◌∙◌, arith}
use Rattle.std.proofs.lemmas.List.{get_or-map, length-map}
use Rattle.des.specs.Blocks.{part}
use Rattle.des_fast.specs.declared.many.lanes.PassPart.{PassPart}
use Rattle.des_fast.specs.RoundKeySlices.{round_keys_in}
use Rattle.des_fast.specs.EachKey.{round_keys_under, round_keys_of_parts}
use Rattle.des_fast.proofs.SpreadParts.{mapped_written_below, round_keys_under-same}
use Rattle.des_fast.proofs.many.lanes.spread_pass.Goals as goal

pub returns-then-parts-2-clause-spread : goal.returns-then-parts-2-clause-spread
returns-then-parts-2-clause-spread g c m below k inside =
    let parts : List PassPart = c.args.parts.now in
    let passes = c.args.passes.now in
    let key : List ℕ = get_or (map g.K.KeyBytes.bytes_of c.args.keys.now) k [] in
    let read = round_keys_in (g.S.Slice.bit k) in
    let of_part : PassPart → List (List Bool) = λ p. round_keys_under p.deciphers (part p.number key) in
    let none : PassPart = record { number = 0; deciphers = false } in
    let last : c.args.i ≡ 2 = c.if-i-eq2.true in
    let first : get_or (map read passes) 0 [] ≡ of_part (get_or parts 0 none) =
    c.requires.before 0 (omega (arith, last)) k inside
    ∙ get_or-map of_part parts 0 none [] (omega (arith, c.told-parts)) in
    let same : of_part (get_or parts 0 none) ≡ of_part (get_or parts 2 none) =
    round_keys_under-same (get_or parts 2 none) (get_or parts 0 none) key c.if-parts.true c.if-parts-2.true in
    mapped_written_below read [] (λ n keys. keys ≡ get_or (round_keys_of_parts parts key) n [])
    passes 2 (get_or passes 0 c.index-passes-0.result) (omega (arith, c.told-passes))
    (λ n low. c.requires.before n (omega (arith, last)) k inside)
    (sym (get_or-map read passes 0 c.index-passes-0.result [] (omega (arith, c.told-passes)))
    ∙ first ∙ same ∙ sym (get_or-map of_part parts 2 none [] (omega (arith, c.told-parts))))
    m (omega (arith, last))

pub returns-else-i-eq2-clause-spread : goal.returns-else-i-eq2-clause-spread
returns-else-i-eq2-clause-spread g c m below k inside =
    let parts : List PassPart = c.args.parts.now in
    let key : List ℕ = get_or (map g.K.KeyBytes.bytes_of c.args.keys.now) k [] in
    let of_part : PassPart → List (List Bool) = λ p. round_keys_under p.deciphers (part p.number key) in
    mapped_written_below (round_keys_in (g.S.Slice.bit k)) []
    (λ n keys. keys ≡ get_or (round_keys_of_parts parts key) n [])
    c.args.passes.now c.args.i _ (omega (arith, c.told-passes))
    (λ n low. c.requires.before n low k inside)
    (c.spread_part.ensures k (omega (arith, inside, length-map c.args.keys.now g.K.KeyBytes.bytes_of))
    ∙ sym (get_or-map of_part parts c.args.i _ [] (omega (arith, c.told-parts))))
    m below
