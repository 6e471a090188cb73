-- The characters before the index stand at the front of the place.
use Rattle.std.proofs.Common.{◌≡◌, ◌≤◌, take}
use Rattle.std.specs.List.{filter}
use Rattle.des_columns.specs.Jasypt.{is_character}
use Rattle.des_columns.proofs.base64_in_place.write_characters.Given as goal

abbrev pub invariant-bytes : goal.invariant-bytes
invariant-bytes l = record {
  count : l.count ≤ l.k;
  characters : take l.count l.place ≡ filter is_character (take l.k l.text);
}
