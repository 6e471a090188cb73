-- The keys below the index have their length.
use Rattle.std.proofs.Common.{◌≡◌, ℕ, ◌<◌, [], get_or, length, map}
use Rattle.des_mac.proofs.many.are_keys.Given as goal

abbrev pub invariant-loop-key : goal.invariant-loop-key
invariant-loop-key g l =
    (k : ℕ) → k < l.key-index
    → length (get_or (map g.K.KeyBytes.bytes_of l.keys) k []) ≡ g.K.KeyBytes.LEN
