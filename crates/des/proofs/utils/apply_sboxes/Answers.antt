use Rattle.std.proofs.Common.{◌≡◌, refl, arith, append-nil}
use Rattle.des.specs.Bits.{bits_of, number_of}
use Rattle.des.specs.CipherFunction.{box_entry, substitute_by}
use Rattle.des.proofs.BitParts.{bits_of-shl}
use Rattle.des.proofs.Substitution.{entry_for, with_entry-lt, bits_of-with_entry}
use Rattle.des.proofs.utils.apply_sboxes.Goals as goal

pub loop-i-init : goal.loop-i-init
unfolding bits_of
loop-i-init c = record { below = omega arith; substituted = refl }

pub loop-i-preserved : goal.loop-i-preserved
unfolding box_entry bits_of number_of
loop-i-preserved c =
    let entry : c.from.result ≡ entry_for c.loop-i.i c.args.input = c.from.ensures in
    let before = c.loop-i.invariant in
    let within = c.loop-i-test.true in
    record {
      below = rw entry (with_entry-lt c.loop-i.i c.args.input c.loop-i.output within before.below);
      substituted = rw entry (bits_of-with_entry c.loop-i.i c.args.input c.loop-i.output _ within before.below
          before.substituted);
    }

pub returns-clause-boxes : goal.returns-clause-boxes
unfolding box_entry bits_of number_of
returns-clause-boxes c = refl

pub returns-clause-substituted : goal.returns-clause-substituted
unfolding substitute_by
returns-clause-substituted c =
    let last : c.loop-i.i ≡ 8 = omega arith in
    let all = rw (last, append-nil (bits_of 32 c.loop-i.output)) at c.loop-i.invariant.substituted in
    rw all at (bits_of-shl 32 32 c.loop-i.output)
