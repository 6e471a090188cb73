use Rattle.std.proofs.Common.{◌∙◌, ◌<◌, length, sym, arith}
use Rattle.des_passwords.proofs.DecodedTexts.{squeezed_begins, squeezed_none, squeezed_more}
use Rattle.des_passwords.proofs.decoding.squeeze.Goals as goal
use Rattle.des_passwords.proofs.decoding.squeeze.Goals.{in-Some, in_default}

pub bytes-init : goal.bytes-init
bytes-init g c = squeezed_begins _ _ c.args.position.now c.args.text.now

-- a byte that gives one, and one that gives none
pub bytes-preserved : goal.bytes-preserved
bytes-preserved g c =
    let within : c.bytes.at < length c.bytes.text = omega (arith, c.bytes-test.true, c.bytes.invariant.size) in
    elim c.match-given.branch [
      | in-Some w ↦ rw (w.text-is, w.kept-is, c.after.ensures)
          (squeezed_more _ _ _ _ _ _ _ _ c.bytes.invariant within w.in-Some.given (sym c.given.ensures ∙ w.in-Some.is))
      | in_default w ↦ rw (w.text-is, w.kept-is, c.after.ensures)
          (squeezed_none _ _ _ _ _ _ _ _ c.bytes.invariant within (sym c.given.ensures ∙ w.in_default.is))
    ]
