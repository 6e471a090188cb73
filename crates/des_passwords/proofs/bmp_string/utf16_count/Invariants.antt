use Rattle.std.proofs.Common.{◌≡◌, ◌+◌, length}
use Rattle.std.specs.Char.Escape.{encode_utf16}
use Rattle.std.specs.List.{flat_map}
use Rattle.std.specs.Str.{chars}
use denote.Shadow.{shadow}
use denote.Text.{Utf8}
use Rattle.des_passwords.proofs.bmp_string.utf16_count.Given as goal

-- the units that are counted, and those that are left
abbrev pub invariant-characters : goal.invariant-characters
invariant-characters l = record {
  text : shadow (Utf8 l.rest);
  counted : l.count + length (flat_map encode_utf16 (chars l.rest)) ≡ length (flat_map encode_utf16 (chars l.text));
}

abbrev pub decreases-characters : goal.decreases-characters
decreases-characters l = length (chars l.rest)
