-- What is before the index is keys.
use Rattle.std.proofs.Common.{◌≡◌, ℕ, ◌<◌, Some, None, List, get_or}
use Rattle.des.specs.Blocks.{IsKey}
use Rattle.des_columns.proofs.key_file.KeyFile.are_keys.Given as goal

abbrev pub invariant-numbers : goal.invariant-numbers
invariant-numbers l = (n : ℕ) (key : List ℕ) → n < l.number → get_or l.self.keys n None ≡ Some key → IsKey 24 key
