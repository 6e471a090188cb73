use Rattle.des_lines.proofs.lines.pin_of.Goals as goal
use Rattle.des_lines.proofs.lines.pin_of.Goals.{in-Format0+in_ok-pin-in-Format0, in-Format1+in_ok-pin-in-Format1, in-Format2+in_ok-pin-in-Format2, in-Format3+in_ok-pin-in-Format3}

-- by the format
pub returns-clause-pin : goal.returns-clause-pin
returns-clause-pin c =
    elim c.match-format.branch [
      | in-Format0+in_ok-pin-in-Format0 w ↦
          rw (w.in-Format0.is, w.pin-is)
          ((w.decode_format_0.ensures.decoded _).0 w.in_ok-pin-in-Format0.was)
      | in-Format1+in_ok-pin-in-Format1 w ↦
          rw (w.in-Format1.is, w.pin-is) ((w.decode_format_1.ensures.decoded _).0 w.in_ok-pin-in-Format1.was)
      | in-Format2+in_ok-pin-in-Format2 w ↦
          rw (w.in-Format2.is, w.pin-is) ((w.decode_format_2.ensures.decoded _).0 w.in_ok-pin-in-Format2.was)
      | in-Format3+in_ok-pin-in-Format3 w ↦
          rw (w.in-Format3.is, w.pin-is)
          ((w.decode_format_3.ensures.decoded _).0 w.in_ok-pin-in-Format3.was)
    ]
