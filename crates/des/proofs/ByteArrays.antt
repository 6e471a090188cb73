-- An array of n bytes is a key of n bytes, and one of eight bytes a block.
use Rattle.std.proofs.Common.{◌≡◌, ℕ, ◌<◌, List, length, slice_index}
use Rattle.std.proofs.lemmas.List.Elements.{All-from_get_or}
use Rattle.des.specs.Blocks.{IsKey, IsBlock}

pub IsKey-array : (n : ℕ) (bytes : List ℕ) → length bytes ≡ n → ((i : ℕ) → slice_index bytes i < 256) → IsKey n bytes
IsKey-array n bytes long small = (long, All-from_get_or (λ byte. byte < 256) bytes 0 (λ i within. small i))

pub IsBlock-array : (bytes : List ℕ) → length bytes ≡ 8 → ((i : ℕ) → slice_index bytes i < 256) → IsBlock bytes
IsBlock-array bytes eight small = IsKey-array 8 bytes eight small
