-- The groups before the index are encoded, and the bytes of the others are as they were.
use Rattle.std.proofs.Common.{◌≡◌, ◌+◌, ◌*◌, length, take, drop}
use Rattle.base64.specs.Engines.{standard}
use Rattle.base64.specs.GeneralPurpose.{encode_of}
use Rattle.des_columns.proofs.base64_in_place.encode.Given as goal

abbrev pub invariant-groups : goal.invariant-groups
invariant-groups l = record {
  long : length l.place ≡ length l.initial.place;
  front : take (4 * l.group) l.place ≡ encode_of standard (take (3 * l.group) (drop l.start l.initial.place));
  rest : drop (l.start + 3 * l.group) l.place ≡ drop (l.start + 3 * l.group) l.initial.place;
}
