use Rattle.std.proofs.Common.{refl, arith}
use Rattle.std.proofs.lemmas.List.Elements.{All-nil}
use Rattle.des_modes.specs.Modes.{mode_by}
use Rattle.des_modes.proofs.StreamPlaces.{InMode-none, IsPlace-begin, size_of-mode_by}
use Rattle.des_modes.proofs.stream.Stream.new.Goals as goal

pub returns-clause-some : goal.returns-clause-some
returns-clause-some c =
    let is = c.in_ok-of.ensures.some.0 in
    let iv = c.args.iv.now in
    let mode = mode_by c.args.number in (
      is,
      λ encryption. record {
        begun = (refl, is, omega (arith, c.new.ensures.used, (size_of-mode_by c.args.number is).0));
        is_mode = refl;
        is_block = (omega arith, c.are_bytes.ensures);
        are_bytes = All-nil _;
        place = IsPlace-begin mode encryption iv c.new.result (omega arith, c.are_bytes.ensures) c.new.ensures.register c.new.ensures.used;
        made = InMode-none mode encryption iv;
      },
    )
