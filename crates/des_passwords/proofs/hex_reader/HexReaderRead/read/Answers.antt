use Rattle.std.proofs.Common.{◌∙◌, sym}
use Rattle.des_passwords.proofs.StreamedDigits.{answered, refused}
use Rattle.des_passwords.proofs.hex_reader.HexReaderRead.read.Goals as goal
use Rattle.des_passwords.proofs.hex_reader.HexReaderRead.read.Goals.{then-ends_short, else-ends_short}

pub returns-clause-bytes : goal.returns-clause-bytes
returns-clause-bytes g c =
    let read = c.read_decoded-outcome.ensures in
    elim c.if-ends_short.branch [
      | then-ends_short w ↦ rw w.outcome-is (refused _ _ _ _ _ _ read.decoded w.from.result (sym c.ends_short.ensures ∙ w.if-ends_short.true)).0
      | else-ends_short w ↦ rw w.outcome-is
          (answered _ _ _ _ _ _ read.decoded read.ended (sym c.ends_short.ensures ∙ w.if-ends_short.false)).0
    ]

pub returns-clause-invalid : goal.returns-clause-invalid
returns-clause-invalid g c =
    let read = c.read_decoded-outcome.ensures in
    elim c.if-ends_short.branch [
      | then-ends_short w ↦ rw w.outcome-is (refused _ _ _ _ _ _ read.decoded w.from.result (sym c.ends_short.ensures ∙ w.if-ends_short.true)).1
      | else-ends_short w ↦ rw w.outcome-is
          (answered _ _ _ _ _ _ read.decoded read.ended (sym c.ends_short.ensures ∙ w.if-ends_short.false)).1
    ]
