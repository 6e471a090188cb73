-- A round xors the entries of the eight boxes one after another, where P puts their bits.
use Rattle.std.proofs.Common.{List, [], ◌∷◌, Bool, map, refl, ◌∙◌}
use Rattle.std.proofs.lemmas.List.{length-map}
use Rattle.des.specs.Bits.{select, xor_bits}
use Rattle.des.specs.Tables.{s1, s2, s3, s4, s5, s6, s7, s8, expansion}
use Rattle.des.specs.CipherFunction.{cipher_function}
use Rattle.des_fast.specs.RoundKeySlices.{round_key_of}
use Rattle.des_fast.proofs.CipherFunctionByGroups.{xor_entries-substitute}
use Rattle.des_fast.proofs.RoundSteps.{bits-step}
use Rattle.des_fast.proofs.slices.rounds.round.Goals as goal

pub returns : goal.returns
unfolding cipher_function
returns g c b within =
    let round_key : List Bool = round_key_of (map (g.S.Slice.bit b) c.args.key.now) c.args.rotation in
    let mixed : List Bool = xor_bits (select expansion (map (g.S.Slice.bit b) c.args.right.now)) round_key in
    let left_1 =
    bits-step (g.S.Slice.bit b) 0 s1 (8 ∷ 16 ∷ 22 ∷ 30 ∷ []) c.args.left.now c.xor_at.new.half c.group.result
    c.s1.result _ mixed refl (c.group.ensures b within) (c.s1.ensures b within) (c.xor_at.ensures b within) in
    let left_2 =
    bits-step (g.S.Slice.bit b) 1 s2 (12 ∷ 27 ∷ 1 ∷ 17 ∷ []) c.xor_at.new.half c.xor_at-2.new.half c.group-2.result
    c.s2.result _ mixed left_1 (c.group-2.ensures b within) (c.s2.ensures b within) (c.xor_at-2.ensures b within) in
    let left_3 =
    bits-step (g.S.Slice.bit b) 2 s3 (23 ∷ 15 ∷ 29 ∷ 5 ∷ []) c.xor_at-2.new.half c.xor_at-3.new.half c.group-3.result
    c.s3.result _ mixed left_2 (c.group-3.ensures b within) (c.s3.ensures b within) (c.xor_at-3.ensures b within) in
    let left_4 =
    bits-step (g.S.Slice.bit b) 3 s4 (25 ∷ 19 ∷ 9 ∷ 0 ∷ []) c.xor_at-3.new.half c.xor_at-4.new.half c.group-4.result
    c.s4.result _ mixed left_3 (c.group-4.ensures b within) (c.s4.ensures b within) (c.xor_at-4.ensures b within) in
    let left_5 =
    bits-step (g.S.Slice.bit b) 4 s5 (7 ∷ 13 ∷ 24 ∷ 2 ∷ []) c.xor_at-4.new.half c.xor_at-5.new.half c.group-5.result
    c.s5.result _ mixed left_4 (c.group-5.ensures b within) (c.s5.ensures b within) (c.xor_at-5.ensures b within) in
    let left_6 =
    bits-step (g.S.Slice.bit b) 5 s6 (3 ∷ 28 ∷ 10 ∷ 18 ∷ []) c.xor_at-5.new.half c.xor_at-6.new.half c.group-6.result
    c.s6.result _ mixed left_5 (c.group-6.ensures b within) (c.s6.ensures b within) (c.xor_at-6.ensures b within) in
    let left_7 =
    bits-step (g.S.Slice.bit b) 6 s7 (31 ∷ 11 ∷ 21 ∷ 6 ∷ []) c.xor_at-6.new.half c.xor_at-7.new.half c.group-7.result
    c.s7.result _ mixed left_6 (c.group-7.ensures b within) (c.s7.ensures b within) (c.xor_at-7.ensures b within) in
    let left_8 =
    bits-step (g.S.Slice.bit b) 7 s8 (4 ∷ 26 ∷ 14 ∷ 20 ∷ []) c.xor_at-7.new.half c.xor_at-8.new.half c.group-8.result
    c.s8.result _ mixed left_7 (c.group-8.ensures b within) (c.s8.ensures b within) (c.xor_at-8.ensures b within) in
    left_8 ∙ xor_entries-substitute (map (g.S.Slice.bit b) c.args.left.now) mixed
    (length-map c.args.left.now (g.S.Slice.bit b) ∙ c.told-left)
