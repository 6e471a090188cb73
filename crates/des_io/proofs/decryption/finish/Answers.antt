use Rattle.std.proofs.Common.{◌≡◌, ◌≢◌, ◌∙◌, [], length, rules, arith, refl, sym, ap}
use Rattle.des_io.specs.declared.padding.Padding.TheVariants.{Unpadded}
use Rattle.des_io.specs.PaddedBytes.{taken_off}
use Rattle.des_io.specs.Streams.{bytes_of}
use Rattle.des_io.proofs.PaddedLists.{length-padded, taken_off-twice}
use Rattle.des_io.proofs.decryption.finish.Goals as goal

pub returns-in-None-2 : goal.returns-in-None-2
returns-in-None-2 g c =
    let taken = taken_off c.args.padding in
    let differs : taken ≢ Unpadded = search rules in
    let pads : taken_off taken ≢ Unpadded = (λ e. absurd (differs (sym (taken_off-twice c.args.padding) ∙ e))) in
    let none : bytes_of c.args.last.now ≡ [] = search rules in
    record {
      ended = (
        λ plain same. absurd (omega (arith, sym (length-padded taken plain pads) ∙ ap length (same ∙ none))),
        refl,
      );
    }
