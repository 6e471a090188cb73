use Rattle.std.proofs.Common.{◌≡◌, ◌∙◌, None, sym, ap}
use Rattle.std.specs.Result.{result_err}
use Rattle.des_payment.specs.PinBlocks.{pin_fault}
use Rattle.des_payment.specs.PinVerification.{pvv_fault}
use Rattle.des_payment.specs.Texts.{number_fault}
use Rattle.des_lines.specs.declared.fault.FaultKind.TheVariants.{Value}
use Rattle.des_lines.specs.Keys.{pair_fault}
use Rattle.des_lines.proofs.Verdicts.{verdict-fails}
use Rattle.des_lines.proofs.pin_lines.pvv_verdict.Goals as goal

-- key, PIN and value are read; what is left is the fault of the verification
pub returns-clause-fault : goal.returns-clause-fault
returns-clause-fault c =
    let key : pair_fault c.args.inputs.key.now ≡ None = sym c.pair_of.ensures.fault ∙ ap result_err c.in_ok-key.was in
    let pin : pin_fault c.args.inputs.text.now ≡ None = sym c.new.ensures.fault ∙ ap result_err c.in_ok-pin.was in
    let value : number_fault 4 4 Value Value c.args.value.now ≡ None =
    sym c.value_of.ensures.fault ∙ ap result_err c.in_ok-value.was in
    let verification = c.verify_pvv-outcome.ensures in
    rw (key, pin, value)
    (verdict-fails _ (pvv_fault c.args.inputs.account.now c.args.index) c.verify_pvv-outcome.result c.verdict.result
    (record { first = verification.fault; right = verification.right; wrong = verification.wrong })
    c.verdict.ensures)
