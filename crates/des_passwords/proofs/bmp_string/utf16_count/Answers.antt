use Rattle.std.proofs.Common.{ℕ, List, length, length-append, ap, arith}
use Rattle.std.specs.Char.Escape.{encode_utf16}
use Rattle.std.specs.List.{flat_map}
use Rattle.std.specs.Str.{chars}
use Rattle.des_passwords.proofs.PasswordUnits.{fewer_of_text, units_counted}
use Rattle.des_passwords.proofs.bmp_string.utf16_count.Goals as goal

pub overflow_add-count : goal.overflow_add-count
overflow_add-count c =
    let character = c.in-Some.first in
    let after = flat_map encode_utf16 (chars c.in-Some.after.now) in
    omega (
      arith,
      c.characters.invariant.counted,
      units_counted character c.len_utf16-count.result c.len_utf16-count.ensures.bmp c.len_utf16-count.ensures.surrogate_pair,
      ap (λ (l : List ℕ). length (flat_map encode_utf16 l)) c.in-Some.ensures,
      length-append (encode_utf16 character) after,
      fewer_of_text c.args.text.now c.utf8.text,
      c.type_inv.text,
    )

pub returns-clause-bound : goal.returns-clause-bound
returns-clause-bound c =
    omega (arith, c.characters.invariant.counted, fewer_of_text c.args.text.now c.utf8.text, c.type_inv.text)
