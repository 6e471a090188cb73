use Rattle.std.proofs.Common.{◌≡◌, ◌∙◌, length, arith}
use Rattle.des_passwords.proofs.LinesOfBase64.{bytes_read, line_at_fault}
use Rattle.des_passwords.proofs.base64_lines.decode_lines.Goals as goal

pub returns-in-Ok : goal.returns-in-Ok
returns-in-Ok c = record {
  read =
      bytes_read c.args.number _ c.as_slice.result.now _ (c.as_slice.ensures.value ∙ c.in_ok-characters.ensures)
      c.in-Ok.ensures.ok;
}

pub returns : goal.returns
returns c =
    let characters = c.in_ok-characters.characters in
    let failed = rw c.in-Err-DecodeError.field-0-is at c.in-Err-DecodeError.ensures.err in
    let count : c.len.result ≡ length characters.items = omega (arith, c.len.ensures, characters.ok.0) in
    record {
      read =
          rw (c.line_at.ensures, c.place_of-place.ensures, count)
          (line_at_fault c.args.number _ characters.items c.in-Err-DecodeError.error c.in_ok-characters.ensures
          (rw c.as_slice.ensures.value at failed));
    }
