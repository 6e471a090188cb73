-- The groups before the index encode the bytes at the front, and those from it on are as they were.
use Rattle.std.proofs.Common.{◌≡◌, ◌<◌, ◌≤◌, ◌*◌, length, take, drop}
use Rattle.base64.specs.Engines.{standard}
use Rattle.base64.specs.GeneralPurpose.{encode_of}
use Rattle.des_columns.proofs.base64_in_place.decode.Given as goal

abbrev pub invariant-groups : goal.invariant-groups
invariant-groups l = record {
  long : length l.characters ≡ length l.initial.characters;
  size : l.size ≤ 3 * l.group;
  full : l.group < l.groups → l.size ≡ 3 * l.group;
  encoded : encode_of standard (take l.size l.characters) ≡ take (4 * l.group) l.initial.characters;
  rest : drop (4 * l.group) l.characters ≡ drop (4 * l.group) l.initial.characters;
}
