-- Bytes that go from a reader through a mode that makes a stream cipher of a block cipher, to a writer.
use Rattle.std.specs.Prelude.{◌≡◌, ◌⊎◌, ℕ, ◌≤◌, List, [], ◌++◌, length}
use Rattle.std.specs.Io.KnownBytes.{Consumes, Appends, IsAtEnd}
use Rattle.des_modes.specs.Streams.{plaintext, ciphertext}
use Rattle.des_modes.specs.States.{IsStreamAt}
use Rattle.des_modes.specs.declared.direction.Direction.{Direction}
use Rattle.des_modes.specs.declared.stream.Stream.{Stream}
use Rattle.des_io.specs.Streams.{Passage}

-- the bytes that come next in a stream, `from`, become `to`, and it goes on to `next`: whatever is behind it, they are behind too
pub record Becomes (encryption : List ℕ → List ℕ) (direction : Direction) (stream : Stream) (from to : List ℕ) (next : Stream)
    : Type 0 where
  pub goes_on : (number : ℕ) (iv p c : List ℕ) → IsStreamAt number encryption iv p c stream
      → IsStreamAt number encryption iv (p ++ plaintext direction from to) (c ++ ciphertext direction from to) next

-- what was written begins what bytes that were read become: those before `rest` become `put` and `missing`
pub record AppliesPrefix (encryption : List ℕ → List ℕ) (direction : Direction) (stream : Stream) (limit : ℕ) (passage : Passage)
    : Type 0 where
  pub from : List ℕ
  pub rest : List ℕ
  pub put : List ℕ
  pub missing : List ℕ
  pub next : Stream
  pub read : Consumes passage.read_from passage.read_to (from ++ rest)
  pub became : Becomes encryption direction stream from (put ++ missing) next
  pub written : Appends passage.written_from passage.written_to put
  pub within : length from ≤ limit

-- `count` bytes were read, up to the end of the input or to a limit, and all that they become was written
pub record Applies (encryption : List ℕ → List ℕ) (direction : Direction) (stream : Stream) (limit count : ℕ) (passage : Passage)
    : Type 0 where
  pub prefix : AppliesPrefix encryption direction stream limit passage
  pub whole : (prefix.rest ≡ []) × (prefix.missing ≡ [])
  pub size : length prefix.from ≡ count
  pub ends : IsAtEnd passage.read_to ⊎ (count ≡ limit)
