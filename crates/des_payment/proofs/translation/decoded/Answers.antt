use Rattle.std.proofs.Common.{[], Ok, refl, sym}
use Rattle.des.proofs.ByteArrays.{IsBlock-array}
use Rattle.des_payment.proofs.Decoding.{decodes-format_0, decodes-format_1, decodes-format_2, decodes-format_3}
use Rattle.des_payment.proofs.translation.decoded.Goals as goal

pub returns-in-Format0-clause-pin : goal.returns-in-Format0-clause-pin
returns-in-Format0-clause-pin c = λ right.
    rw c.in-Format0.is (
      [],
      (decodes-format_0 c.args.account.now c.args.block.now c.unbound.result c.requires (IsBlock-array c.args.block.now c.told-block c.fits-block)
          c.unbound.ensures (Ok c.read_or_zeros.result.1) (sym (c.read_or_zeros.ensures.right.0 right), c.read_or_zeros.ensures.pin right) _).0 refl,
    )

pub returns-in-Format1-clause-pin : goal.returns-in-Format1-clause-pin
returns-in-Format1-clause-pin c = λ right.
    rw c.in-Format1.is
    ((decodes-format_1 c.args.block.now c.digits_of.result (IsBlock-array c.args.block.now c.told-block c.fits-block)
    c.digits_of.ensures (Ok c.read_or_zeros-in-Format1.result.1) (sym (c.read_or_zeros-in-Format1.ensures.right.0 right), c.read_or_zeros-in-Format1.ensures.pin right) _).0 refl)

pub returns-in-Format2-clause-pin : goal.returns-in-Format2-clause-pin
returns-in-Format2-clause-pin c = λ right.
    rw c.in-Format2.is (
      [],
      (decodes-format_2 c.args.block.now c.digits_of-in-Format2.result (IsBlock-array c.args.block.now c.told-block c.fits-block)
          c.digits_of-in-Format2.ensures (Ok c.read_or_zeros-in-Format2.result.1) (sym (c.read_or_zeros-in-Format2.ensures.right.0 right), c.read_or_zeros-in-Format2.ensures.pin right) _).0 refl,
    )

pub returns-in-Format3-clause-pin : goal.returns-in-Format3-clause-pin
returns-in-Format3-clause-pin c = λ right.
    rw c.in-Format3.is
    ((decodes-format_3 c.args.account.now c.args.block.now c.unbound-in-Format3.result c.requires (IsBlock-array c.args.block.now c.told-block c.fits-block)
    c.unbound-in-Format3.ensures (Ok c.read_or_zeros-in-Format3.result.1) (sym (c.read_or_zeros-in-Format3.ensures.right.0 right), c.read_or_zeros-in-Format3.ensures.pin right) _).0 refl)
