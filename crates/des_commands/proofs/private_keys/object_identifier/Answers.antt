use Rattle.std.proofs.Common.{◌∙◌, ℕ, List, Option, Some, None, unwrap_or, if◌then◌else◌, Bool, string_bytes, sym, ap}
use Rattle.std.proofs.lemmas.Bool.{lt-ltb, le-ltb}
use Rattle.hex.specs.Hex.{encode_lower}
use Rattle.des_commands.proofs.ObjectIdentifiers.{in_digits, reads_end, reads_ended, reads_large, reads_on}
use Rattle.des_commands.proofs.private_keys.object_identifier.Goals as goal
use Rattle.des_commands.proofs.private_keys.object_identifier.Goals.{then-is_whole+in_ok-text, else-is_whole}

-- a number has more than 56 bits
pub returns-then-number : goal.returns-then-number
returns-then-number c =
    in_digits c.encode.result c.args.contents.now
    (reads_large _ _ _ _ _ c.octets.invariant c.octets-test.true c.if-number.true) c.encode.ensures

pub octets-preserved : goal.octets-preserved
octets-preserved c =
    elim c.if-is_whole.branch [
      | then-is_whole+in_ok-text w ↦ rw (w.text-is, w.number-is, lt-ltb _ 128 w.if-is_whole.true, w.in_ok-text.ensures)
          (reads_ended _ _ _ _ _ c.octets.invariant c.octets-test.true c.if-number.false w.if-is_whole.true)
      | else-is_whole w ↦ rw (w.text-is, w.number-is, le-ltb _ 128 w.if-is_whole.false)
          (reads_on _ _ _ _ _ c.octets.invariant c.octets-test.true c.if-number.false w.if-is_whole.false)
    ]

-- the octets end with a number, or within one
pub returns-then-is_whole-2 : goal.returns-then-is_whole-2
returns-then-is_whole-2 c =
    ap (λ (o : Option (List ℕ)). unwrap_or o (encode_lower c.args.contents.now))
    (sym (reads_end _ _ _ _ _ c.octets.invariant c.octets-test.false
    ∙ ap (λ (b : Bool). if b then Some (string_bytes c.octets.text) else None) c.if-is_whole-2.true))

pub returns-else-is_whole-2 : goal.returns-else-is_whole-2
returns-else-is_whole-2 c =
    in_digits c.encode-else-is_whole-2.result c.args.contents.now
    (reads_end _ _ _ _ _ c.octets.invariant c.octets-test.false
    ∙ ap (λ (b : Bool). if b then Some (string_bytes c.octets.text) else None) c.if-is_whole-2.false)
    c.encode-else-is_whole-2.ensures
