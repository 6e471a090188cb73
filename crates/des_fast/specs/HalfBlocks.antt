-- What the round keys and the halves of the code stand for.
use Rattle.std.specs.Prelude.{ℕ, List, Bool, map, take, drop}
use Rattle.des.specs.Bits.{bits_of_bytes, select}
use Rattle.des.specs.Tables.{initial_permutation, final_permutation}
use Rattle.des.specs.Blocks.{block_of_bits}
use Rattle.des.specs.Rounds.{swapped}
use Rattle.des_fast.specs.declared.halves.RoundKey.{RoundKey}
use Rattle.des_fast.specs.Groups.{bits_of_groups}

-- the round keys, 48 bits each
unfoldable pub round_keys_of : List RoundKey → List (List Bool)
round_keys_of round_keys = map (λ round_key. bits_of_groups round_key.groups) round_keys

-- the halves that the rounds of a block begin with
abbrev pub first_halves : List ℕ → List Bool × List Bool
first_halves block =
    let permuted = select initial_permutation (bits_of_bytes block) in
    (take 32 permuted, drop 32 permuted)

-- the block that two halves make after the rounds
abbrev pub last_block : List Bool × List Bool → List ℕ
last_block halves = block_of_bits (select final_permutation (swapped halves))
