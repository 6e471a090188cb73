use Rattle.std.proofs.Common.{◌↔◌, IsTrue, nat_eq}
use Rattle.std.proofs.lemmas.Bool.{eqb-true, eq-eqb}
use Rattle.des.specs.KeyHalves.{ArePartners}
use Rattle.des.proofs.PartnerWords.{ArePartners-by_words}
use Rattle.des.proofs.PartnerKeys.{told_by_partners}
use Rattle.des.proofs.weak_key.is_partner.Goals as goal

pub returns-then-rotate_halves-halves : goal.returns-then-rotate_halves-halves
returns-then-rotate_halves-halves c =
    let known =
    ArePartners-by_words c.args.first.now c.args.second.now c.from_be_bytes.result c.from_be_bytes-2.result
    c.pc1-halves.result c.pc1-partner.result c.rotate_halves-rotated.result c.rotate_halves.result
    c.told-first c.told-second c.fits-first c.fits-second c.from_be_bytes.ensures c.from_be_bytes-2.ensures
    c.pc1-halves.type_inv c.rotate_halves-rotated.type_inv c.rotate_halves.type_inv c.pc1-partner.type_inv
    c.pc1-halves.ensures.selected c.pc1-partner.ensures.selected c.rotate_halves-rotated.ensures
    c.rotate_halves.ensures in
    let partners : IsTrue (nat_eq c.pc1-partner.result c.rotate_halves-rotated.result)
    ↔ ArePartners c.args.first.now c.args.second.now = (
      λ yes. known.2.1 (c.if-rotate_halves-halves.true, eqb-true _ _ yes),
      λ partners. eq-eqb _ _ (known.2.0 partners).1,
    ) in
    let others = told_by_partners _ c.args.first.now c.args.second.now known.0 known.1 partners in
    record { partners = partners; reversed_round_keys = others.0; undone = others.1; twice = others.2 }

pub returns-else-rotate_halves-halves : goal.returns-else-rotate_halves-halves
returns-else-rotate_halves-halves c =
    let known =
    ArePartners-by_words c.args.first.now c.args.second.now c.from_be_bytes.result c.from_be_bytes-2.result
    c.pc1-halves.result c.pc1-partner.result c.rotate_halves-rotated.result c.rotate_halves.result
    c.told-first c.told-second c.fits-first c.fits-second c.from_be_bytes.ensures c.from_be_bytes-2.ensures
    c.pc1-halves.type_inv c.rotate_halves-rotated.type_inv c.rotate_halves.type_inv c.pc1-partner.type_inv
    c.pc1-halves.ensures.selected c.pc1-partner.ensures.selected c.rotate_halves-rotated.ensures
    c.rotate_halves.ensures in
    let partners : IsTrue (nat_eq c.rotate_halves.result c.pc1-halves.result)
    ↔ ArePartners c.args.first.now c.args.second.now = (
      λ yes. absurd (c.if-rotate_halves-halves.false (eqb-true _ _ yes)),
      λ partners. eq-eqb _ _ (known.2.0 partners).0,
    ) in
    let others = told_by_partners _ c.args.first.now c.args.second.now known.0 known.1 partners in
    record { partners = partners; reversed_round_keys = others.0; undone = others.1; twice = others.2 }
