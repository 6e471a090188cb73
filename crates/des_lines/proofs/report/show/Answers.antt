-- What `send` could not write is told as a fault of standard output.
use Rattle.std.proofs.Common.{◌≡◌, codes, inr, ap, ◌∙◌}
use Rattle.des_lines.specs.declared.fault.FaultKind.{FaultKind}
use Rattle.des_lines.specs.declared.fault.FaultKind.TheVariants.{Write}
use Rattle.des_lines.specs.Faults.{about_of}
use Rattle.des_lines.proofs.report.show.Goals as goal

pub returns-in-Err-send : goal.returns-in-Err-send
returns-in-Err-send g c =
    let fault = c.in-Err-send.ensures.fault in
    let kind : c.about.result.kind ≡ Write fault.0 = c.about.ensures.kind ∙ fault.1 in
    let about : c.about.result.about.now ≡ codes "standard output" =
    c.about.ensures.about ∙ ap (λ (k : FaultKind). about_of k (codes "standard output")) fault.1 in
    let written = rw c.as_slice.ensures.value at c.in-Err-send.ensures.part in
    let told = rw (kind, about) at c.tell.ensures in
    rw c.in-Ok.is (inr (written, (fault.0, told)))
