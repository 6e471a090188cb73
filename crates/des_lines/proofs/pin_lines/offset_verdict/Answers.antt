use Rattle.std.proofs.Common.{◌≡◌, ◌∙◌, None, sym, ap}
use Rattle.std.specs.Result.{result_err}
use Rattle.des_payment.specs.PinVerification.{key_fault}
use Rattle.des_payment.specs.Texts.{number_fault}
use Rattle.des_lines.specs.declared.fault.FaultKind.TheVariants.{Offset}
use Rattle.des_lines.specs.PinLines.{data_fault, key_and_pin_fault}
use Rattle.des_lines.specs.Texts.{bytes_of}
use Rattle.des_lines.proofs.Verdicts.{verdict-fails, verdict-says}
use Rattle.des_lines.proofs.pin_lines.offset_verdict.Goals as goal

-- all are read; what is left is the fault of the verification
pub returns-clause-fault : goal.returns-clause-fault
returns-clause-fault c =
    let read : key_and_pin_fault c.args.inputs ≡ None = sym c.key_and_pin.ensures.fault ∙ ap result_err c.in_ok-key.was in
    let given : data_fault c.args.by ≡ None = sym c.data_of.ensures.fault ∙ ap result_err c.in_ok-validation.was in
    let offset : number_fault 4 12 Offset Offset c.args.offset.now ≡ None =
    sym c.given_offset.ensures.fault ∙ ap result_err c.in_ok-offset.was in
    let key : c.bytes.result.now ≡ bytes_of c.args.inputs.key.now = c.bytes.ensures.value ∙ c.in_ok-key.ensures.key in
    let verification = c.verify_offset-outcome.ensures in
    rw (read, given, offset, ← key)
    (verdict-fails _ (key_fault c.bytes.result.now) c.verify_offset-outcome.result c.verdict.result
    (record { first = verification.fault; right = verification.right; wrong = verification.wrong })
    c.verdict.ensures)

-- the line says what was verified
pub returns-clause-line : goal.returns-clause-line
returns-clause-line c =
    let key : c.bytes.result.now ≡ bytes_of c.args.inputs.key.now = c.bytes.ensures.value ∙ c.in_ok-key.ensures.key in
    let verification = c.verify_offset-outcome.ensures in
    let says = verdict-says _ (key_fault c.bytes.result.now) c.verify_offset-outcome.result c.verdict.result
    (record { first = verification.fault; right = verification.right; wrong = verification.wrong })
    c.verdict.ensures in
    rw (
      key,
      c.in_ok-validation.ensures.table,
      c.in_ok-validation.ensures.validation,
      c.in_ok-offset.ensures.offset,
      c.in_ok-key.ensures.pin,
    ) at says
