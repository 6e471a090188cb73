-- How the round key that a half has in it changes from round to round.
use Rattle.std.specs.Prelude.{◌≡◌, ◌<◌, ◌+◌, ◌%◌, ℕ, List, Bool, map, slice_index_or, bit_xor}
use Rattle.des_fast.specs.declared.halves.RoundKey.{RoundKey}
use Rattle.des_fast.specs.SideBySide.{in_direction}

-- the word of the round key of a round, from 0, in the order of enciphering or of deciphering
abbrev pub key_word : Bool → List RoundKey → ℕ → ℕ
key_word deciphers round_keys round =
    slice_index_or (in_direction deciphers (map (λ round_key. round_key.groups) round_keys)) round 0

-- its xor with that of the next round but one, of sixteen, after which the first two come again
abbrev pub change_word : Bool → List RoundKey → ℕ → ℕ
change_word deciphers round_keys round =
    bit_xor (key_word deciphers round_keys round) (key_word deciphers round_keys ((round + 2) % 16))

-- these are the changes of all rounds, each at the place of its round key
abbrev pub AreChanges : Bool → List RoundKey → List RoundKey → Type 0
AreChanges deciphers round_keys changes = (round : ℕ) → round < 16
    → key_word deciphers changes round ≡ change_word deciphers round_keys round
