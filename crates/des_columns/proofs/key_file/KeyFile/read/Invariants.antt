-- The keys of the lines so far, and what the bytes from the index on are.
use Rattle.std.proofs.Common.{◌≡◌, ℕ, ◌-◌, ◌≤◌, ◌<◌, None, [], length, take, drop, get_or}
use Rattle.std.specs.Option.{option_map, option_or}
use Rattle.des_columns.specs.Mysql.{key_of}
use Rattle.des_columns.specs.KeyFile.{lines_after, string_in}
use Rattle.des_columns.proofs.key_file.KeyFile.read.Given as goal

abbrev pub invariant-bytes : goal.invariant-bytes
invariant-bytes l = record {
  start : l.start ≤ l.at;
  count : length l.keys ≡ 10;
  keys : (number : ℕ) → number < 10
      → option_or (option_map key_of (string_in number (lines_after (take (l.at - l.start) (drop l.start l.file)) (drop l.at l.file))))
      (get_or l.keys number None)
      ≡ option_map key_of (string_in number (lines_after [] l.file));
}
