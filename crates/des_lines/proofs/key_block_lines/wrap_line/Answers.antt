use Rattle.std.proofs.Common.{◌≡◌, None, sym, ap, refl, ◌∙◌}
use Rattle.std.specs.Result.{result_err}
use Rattle.des_lines.specs.declared.fault.FaultKind.TheVariants.{ToKeyLength, ToKeyText}
use Rattle.des_lines.specs.Keys.{any_key_fault}
use Rattle.des_lines.specs.KeyBlockLines.{protection_fault, header_text_fault, texts_fault}
use Rattle.des_lines.proofs.WrapFaults.{wrap-fails}
use Rattle.des_lines.proofs.key_block_lines.wrap_line.Goals as goal

-- the texts have no fault: what the block is made of
pub returns-clause-fault : goal.returns-clause-fault
returns-clause-fault c =
    let protection : protection_fault c.args.inputs.key.now ≡ None =
    sym c.protection_of.ensures.fault ∙ ap result_err c.in_ok-protection.was in
    let key : any_key_fault ToKeyLength ToKeyText c.args.inputs.text.now ≡ None =
    sym c.read.ensures.fault ∙ ap result_err c.in_ok-key.was in
    let header : header_text_fault c.args.wrapping.now ≡ None =
    sym c.header_of.ensures.fault ∙ ap result_err c.in_ok-header.was in
    let none : texts_fault c.args.wrapping.now c.args.inputs ≡ None = rw (protection, key, header) refl in
    wrap-fails c.args.wrapping.now c.args.inputs c.in_ok-header.header _ _ _
    (c.bytes-protection.ensures.value ∙ c.in_ok-protection.ensures.key) (c.bytes-key.ensures.value ∙ c.in_ok-key.ensures.key)
    c.as_bytes-optional.ensures.value c.in_ok-header.ensures.header c.block_line.result none c.block_line.ensures.fault
