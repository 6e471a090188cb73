-- The rounds as a computation, for contracts that need a term for an answer: the members of the
-- cipher traits are functions. It is not the definition, which is the relation `IsDes`: that
-- `block_by_keys` gives the one block that is related, in each direction, is proved, and stated on
-- `Des::new`, `encrypt_block` and `decrypt_block`.
use Rattle.std.specs.Prelude.{ℕ, List, [], ◌∷◌, ◌++◌, Bool, take, drop}
use Rattle.des.specs.Bits.{bits_of_bytes, select, xor_bits}
use Rattle.des.specs.Tables.{initial_permutation, final_permutation}
use Rattle.des.specs.CipherFunction.{cipher_function}
use Rattle.des.specs.Blocks.{block_of_bits}

-- the two halves after a round for each round key, in the order of the list
unfoldable pub after_rounds : List (List Bool) → List Bool → List Bool → List Bool × List Bool
after_rounds [] left right = (left, right)
after_rounds (key ∷ keys) left right =
    after_rounds keys right (xor_bits left (cipher_function right key))

-- two halves joined, the second first
abbrev pub swapped : List Bool × List Bool → List Bool
swapped halves = halves.1 ++ halves.0

-- what the rounds make of 64 bits: the initial permutation, a round for each round key, the halves
-- swapped, the final permutation
unfoldable pub through_rounds : List (List Bool) → List Bool → List Bool
through_rounds keys block =
    let permuted = select initial_permutation block in
    select final_permutation (swapped (after_rounds keys (take 32 permuted) (drop 32 permuted)))

-- the block that the rounds make of a block. Enciphering takes the round keys in their order,
-- deciphering in the opposite order
abbrev pub block_by_keys : List (List Bool) → List ℕ → List ℕ
block_by_keys round_keys block = block_of_bits (through_rounds round_keys (bits_of_bytes block))
