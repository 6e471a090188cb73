use Rattle.std.proofs.Common.{rules, ◌≡◌, ◌≢◌, codes, Some, inr, refl, sym, ap, ◌∙◌}
use Rattle.std.specs.Result.{result_err}
use Rattle.std.proofs.lemmas.Result.{err_from_is_err_and}
use Rattle.des_lines.specs.declared.fault.FaultKind.TheVariants.{Vector as WrongVector}
use Rattle.des_lines.specs.Texts.{digits_fault}
use Rattle.des_arguments.proofs.arguments.streams.vector_of.Goals as goal

-- the text is neither word, and its digits are at fault
pub returns-in_err-iv-in_default-clause-fault : goal.returns-in_err-iv-in_default-clause-fault
returns-in_err-iv-in_default-clause-fault c =
    let p = err_from_is_err_and c.from_residual.result c.from_residual.ensures.1 in
    let found : digits_fault 8 WrongVector WrongVector c.as_bytes.result.now ≡ Some c.in_err-iv-in_default.field-0.0 =
    sym c.bytes_of.ensures.fault ∙ ap result_err c.in_err-iv-in_default.was in
    let text : c.as_bytes.result.now ≡ c.args.text.now = search rules in
    let random : c.args.text.now ≢ codes "random" = search rules in
    let first : c.args.text.now ≢ codes "first-block" = search rules in
    let kind : c.in_err-iv-in_default.field-0.0 ≡ WrongVector = search (rules, found) in
    rw (p.1, p.2, kind) (inr (inr (random, first, rw (kind, text) at found, refl)))
