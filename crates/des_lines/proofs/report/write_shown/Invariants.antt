use Rattle.std.proofs.Common.{length, take}
use Rattle.std.specs.Char.{encode_utf8}
use Rattle.std.specs.Io.KnownBytes.{Appends}
use Rattle.std.specs.List.{flat_map}
use Rattle.std.specs.Str.{chars}
use Rattle.des_lines.specs.Faults.{shown_character}
use Rattle.des_lines.proofs.report.write_shown.Given as goal

-- the characters before this one are written
abbrev pub invariant-loop-character : goal.invariant-loop-character
invariant-loop-character g l =
    Appends (g.E.Write.contents l.initial.err) (g.E.Write.contents l.err)
    (flat_map (λ character. encode_utf8 (shown_character character)) (take (length l.yielded) (chars l.text)))
