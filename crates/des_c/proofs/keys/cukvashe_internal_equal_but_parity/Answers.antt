use Rattle.std.proofs.Common.{◌≡◌, ℕ, ◌/◌, List, [], ◌∷◌, length, IsTrue, ap, sym, ◌∙◌, arith}
use Rattle.std.specs.Simd.{first_chunks}
use Rattle.std.proofs.lemmas.List.{take_all}
use Rattle.des.specs.Blocks.{IsKey}
use Rattle.des.specs.Parity.{AgreeOutsideParity}
use Rattle.des.proofs.AgreeingKeys.{Enciphers-agreeing, Ede3-first_parts_agree, Ede3-last_parts_agree}
use Rattle.des_context.specs.Bytes.{blocks_of}
use Rattle.des_c.proofs.keys.cukvashe_internal_equal_but_parity.Goals as goal

-- the one part of a key of eight bytes is the key
one_part : (key : List ℕ) → length key ≡ 8 → blocks_of key ≡ key ∷ []
one_part key eight =
    let count : length key / 8 ≡ 1 = omega (arith, eight) in
    ap (λ n. first_chunks 8 n key) count ∙ ap (λ part. part ∷ []) (take_all 8 key (omega (arith, eight)))

-- so keys of eight bytes agree
agreeing : (c : goal.After-agree_in_each) → length c.args.first.now ≡ 8 → IsTrue c.agree_in_each.result
    → IsKey 8 c.args.first.now × IsKey 8 c.args.second.now × AgreeOutsideParity c.args.first.now c.args.second.now
agreeing c eight agreed =
    let second_eight : length c.args.second.now ≡ 8 = sym c.if-first-second.false ∙ eight in
    let parts = rw (c.as_chunks.ensures.front, c.as_chunks-2.ensures.front) at (c.agree_in_each.ensures.0 agreed) in (
      (eight, c.are_bytes.ensures),
      (second_eight, c.are_bytes-2.ensures),
      (rw (one_part c.args.first.now eight, one_part c.args.second.now second_eight) at parts).0,
    )

pub returns-clause-same_relation : goal.returns-clause-same_relation
returns-clause-same_relation c eight agreed x y =
    let are = agreeing c eight agreed in
    Enciphers-agreeing c.args.first.now c.args.second.now x y are.0 are.1 are.2

pub returns-clause-first_parts_undone : goal.returns-clause-first_parts_undone
returns-clause-first_parts_undone c eight agreed key x y =
    let are = agreeing c eight agreed in
    Ede3-first_parts_agree c.args.first.now c.args.second.now key x y are.0 are.1 are.2

pub returns-clause-last_parts_undone : goal.returns-clause-last_parts_undone
returns-clause-last_parts_undone c eight agreed key x y =
    let are = agreeing c eight agreed in
    Ede3-last_parts_agree key c.args.first.now c.args.second.now x y are.0 are.1 are.2
