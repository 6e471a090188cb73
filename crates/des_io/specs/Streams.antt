-- Bytes that go from a reader through a cipher to a writer.
use Rattle.std.specs.Prelude.{◌≡◌, ◌≢◌, ◌⊎◌, ℕ, ◌+◌, ◌%◌, ◌≤◌, Bool, true, false, List, [], ◌++◌, Option, None, Some, length, take, ⊤}
use Rattle.std.specs.List.{All, flat_map}
use Rattle.std.specs.Io.KnownBytes.{Consumes, Appends, IsAtEnd}
use Rattle.des.specs.Blocks.{IsBlock}
use Rattle.des_io.specs.PaddedBytes.{padded, taken_off}
use Rattle.des_io.specs.CipherModes.{Enciphered, Deciphered, mode_after}
use Rattle.des_io.specs.declared.mode.BlockMode.{BlockMode}
use Rattle.des_io.specs.declared.padding.Padding.{Padding}
use Rattle.des_io.specs.declared.padding.Padding.TheVariants.{Unpadded}

-- the bytes of blocks, one after another
abbrev pub joined : List (List ℕ) → List ℕ
joined blocks = flat_map (λ block. block) blocks

-- the bytes of a block that may be there
abbrev pub bytes_of : Option (List ℕ) → List ℕ
bytes_of None = []
bytes_of (Some block) = block

-- a block that may be there has eight bytes
abbrev pub IsBlockIfThere : (pending : Option (List ℕ)) → Type 0
IsBlockIfThere None = ⊤
IsBlockIfThere (Some block) = length block ≡ 8

-- what a reader has left, and what a writer holds, before a call and after it; none if they do not
-- tell
pub record Passage : Type 0 where
  pub read_from : Option (List ℕ)
  pub read_to : Option (List ℕ)
  pub written_from : Option (List ℕ)
  pub written_to : Option (List ℕ)

abbrev pub passage_of : (read_from read_to written_from written_to : Option (List ℕ)) → Passage
passage_of read_from read_to written_from written_to = record {
  read_from = read_from;
  read_to = read_to;
  written_from = written_from;
  written_to = written_to;
}

-- ---- encryption

-- the bytes that were read are p with their padding, and q, which is p enciphered, was written
pub record Encrypts (encryption : List ℕ → List ℕ) (mode : BlockMode) (padding : Padding) (passage : Passage)
    : Type 0 where
  pub plain : List ℕ
  pub p : List (List ℕ)
  pub q : List (List ℕ)
  pub read : Consumes passage.read_from passage.read_to plain
  pub blocks : All IsBlock p
  pub whole : joined p ≡ padded padding plain
  pub enciphered : Enciphered encryption mode p q
  pub written : Appends passage.written_from passage.written_to (joined q)

-- what was written begins the ciphertext of what was read: the bytes that were read begin with blocks
-- p, or, only if the input is at its end, those bytes with their padding do; and the bytes that were
-- written begin q, which is p enciphered
pub record EncryptsPrefix (encryption : List ℕ → List ℕ) (mode : BlockMode) (padding : Padding) (passage : Passage)
    : Type 0 where
  pub bytes : List ℕ
  pub p : List (List ℕ)
  pub q : List (List ℕ)
  pub rest : List ℕ
  pub put : List ℕ
  pub missing : List ℕ
  pub read : Consumes passage.read_from passage.read_to bytes
  pub blocks : All IsBlock p
  pub prefix : (joined p ++ rest ≡ bytes) ⊎ (IsAtEnd passage.read_to × (joined p ++ rest ≡ padded padding bytes))
  pub enciphered : Enciphered encryption mode p q
  pub begins : put ++ missing ≡ joined q
  pub written : Appends passage.written_from passage.written_to put

-- whole blocks p, which the bytes are, are q enciphered, of which the writer has a prefix, or at
-- success all
pub record EnciphersPiece (encryption : List ℕ → List ℕ) (mode next : BlockMode) (bytes : List ℕ)
    (written_from written_to : Option (List ℕ)) (Succeeds : Type 0) : Type 0 where
  pub p : List (List ℕ)
  pub q : List (List ℕ)
  pub count : ℕ
  pub blocks : All IsBlock p
  pub whole : joined p ≡ bytes
  pub enciphered : Enciphered encryption mode p q
  pub after : next ≡ mode_after mode q
  pub written : Appends written_from written_to (take count (joined q))
  pub all : Succeeds → take count (joined q) ≡ joined q

-- ---- decryption

-- the last block was held back: nothing was written, or eight bytes at least are missing
abbrev pub IsHeldBack : (put missing : List ℕ) → Type 0
IsHeldBack put missing = (put ≡ []) ⊎ (8 ≤ length missing)

-- the writer has a prefix of the block that was held back and of the blocks after it, but for the
-- last block, or at success all but for it, and it is held back
pub record WritesPiece (pending next : Option (List ℕ)) (blocks : List (List ℕ))
    (written_from written_to : Option (List ℕ)) (Succeeds : Type 0) : Type 0 where
  pub put : List ℕ
  pub missing : List ℕ
  pub written : Appends written_from written_to put
  pub begins : put ++ missing ≡ bytes_of pending ++ joined blocks
  pub back : IsHeldBack put missing
  pub last : Succeeds → missing ≡ bytes_of next
  pub size : Succeeds → IsBlockIfThere pending → IsBlockIfThere next
  pub even : Succeeds → IsBlockIfThere pending → length put % 8 ≡ 0
  pub none : Succeeds → next ≡ None → (pending ≡ None) × (blocks ≡ [])

-- how far a decryption has come: the mode of the block that follows, the block that is held back, and
-- what the writer holds
pub record Stage : Type 0 where
  pub mode : BlockMode
  pub pending : Option (List ℕ)
  pub written : Option (List ℕ)

abbrev pub stage_of : (mode : BlockMode) (pending written : Option (List ℕ)) → Stage
stage_of mode pending written = record { mode = mode; pending = pending; written = written }

-- whole blocks q, which the bytes are, are p deciphered, of which the writer has what `WritesPiece`
-- says
pub record DeciphersPiece (decryption : List ℕ → List ℕ) (bytes : List ℕ) (from to : Stage) (Succeeds : Type 0)
    : Type 0 where
  pub q : List (List ℕ)
  pub p : List (List ℕ)
  pub blocks : All IsBlock q
  pub whole : joined q ≡ bytes
  pub deciphered : Deciphered decryption from.mode q p
  pub after : to.mode ≡ mode_after from.mode q
  pub count : length p ≡ length q
  pub written : WritesPiece from.pending to.pending p from.written to.written Succeeds

-- blocks q were read, and p is q deciphered; bytes were written that with the padding that is taken
-- off are p, and whole blocks
pub record Decrypts (decryption : List ℕ → List ℕ) (mode : BlockMode) (padding : Padding) (passage : Passage)
    : Type 0 where
  pub q : List (List ℕ)
  pub p : List (List ℕ)
  pub plain : List ℕ
  pub read : Consumes passage.read_from passage.read_to (joined q)
  pub blocks : All IsBlock q
  pub deciphered : Deciphered decryption mode q p
  pub whole : joined p ≡ padded (taken_off padding) plain
  pub even : length (joined p) % 8 ≡ 0
  pub written : Appends passage.written_from passage.written_to plain

-- blocks q were read, and p, which is q deciphered, was written but for its last block
pub record HoldsLast (decryption : List ℕ → List ℕ) (mode : BlockMode) (passage : Passage) (last : Option (List ℕ))
    : Type 0 where
  pub q : List (List ℕ)
  pub p : List (List ℕ)
  pub put : List ℕ
  pub read : Consumes passage.read_from passage.read_to (joined q)
  pub blocks : All IsBlock q
  pub deciphered : Deciphered decryption mode q p
  pub whole : put ++ bytes_of last ≡ joined p
  pub size : IsBlockIfThere last
  pub even : length put % 8 ≡ 0
  pub none : last ≡ None → p ≡ []
  pub written : Appends passage.written_from passage.written_to put

-- what is left of a limit, if there is one, after `count` blocks
abbrev pub IsLeft : (limit : Option ℕ) (count : ℕ) (left : Option ℕ) → Type 0
IsLeft None count None = ⊤
IsLeft (Some limit) count (Some left) = count + left ≡ limit
IsLeft _ count _ = ⊥

-- `count` blocks are no more than the limit, if there is one
abbrev pub IsWithin : (limit : Option ℕ) (count : ℕ) → Type 0
IsWithin None count = ⊤
IsWithin (Some limit) count = count ≤ limit

-- the same of a stream that ends where the reader does, or at a limit in blocks
pub record HoldsPart (decryption : List ℕ → List ℕ) (mode : BlockMode) (limit : Option ℕ) (passage : Passage)
    (last : Option (List ℕ)) : Type 0 where
  pub holds : HoldsLast decryption mode passage last
  pub ends : IsAtEnd passage.read_to ⊎ (limit ≡ Some (length holds.q))
  pub within : IsWithin limit (length holds.q)

-- what was written begins what was read, deciphered: bytes were read that begin with blocks q, and
-- bytes were written that begin p, which is q deciphered
pub record DeciphersPrefix (decryption : List ℕ → List ℕ) (mode : BlockMode) (passage : Passage) : Type 0 where
  pub q : List (List ℕ)
  pub p : List (List ℕ)
  pub rest : List ℕ
  pub put : List ℕ
  pub missing : List ℕ
  pub read : Consumes passage.read_from passage.read_to (joined q ++ rest)
  pub blocks : All IsBlock q
  pub deciphered : Deciphered decryption mode q p
  pub begins : put ++ missing ≡ joined p
  pub written : Appends passage.written_from passage.written_to put

-- the same within a limit in blocks, if there is one, with the last block held back
pub record HoldsPrefix (decryption : List ℕ → List ℕ) (mode : BlockMode) (limit : Option ℕ) (passage : Passage)
    : Type 0 where
  pub prefix : DeciphersPrefix decryption mode passage
  pub within : IsWithin limit (length prefix.q)
  pub pending : IsHeldBack prefix.put prefix.missing

-- all was read, and the bytes that were written begin those which with the padding that is taken off
-- are p
pub record BeginsPlain (padding : Padding) (p : List (List ℕ)) (rest put : List ℕ) (read_to : Option (List ℕ))
    : Type 0 where
  pub plain : List ℕ
  pub missing : List ℕ
  pub end : IsAtEnd read_to
  pub all : rest ≡ []
  pub whole : padded (taken_off padding) plain ≡ joined p
  pub begins : put ++ missing ≡ plain

-- what was written begins what was read, deciphered, with the last block held back, or, only if
-- the input is at its end, without the padding
pub record DecryptsPrefix (decryption : List ℕ → List ℕ) (mode : BlockMode) (padding : Padding) (passage : Passage)
    : Type 0 where
  pub prefix : DeciphersPrefix decryption mode passage
  pub pending : IsHeldBack prefix.put prefix.missing
      ⊎ BeginsPlain padding prefix.p prefix.rest prefix.put passage.read_to

-- ---- parts

-- `count` blocks were read, and the blocks after them go on from them
pub record Skips (mode next : BlockMode) (count : ℕ) (read_from read_to : Option (List ℕ)) : Type 0 where
  pub q : List (List ℕ)
  pub read : Consumes read_from read_to (joined q)
  pub blocks : All IsBlock q
  pub size : length q ≡ count
  pub after : next ≡ mode_after mode q

-- a reader is at its end, and nothing was read, or it was not, and a byte was read
abbrev pub IsEndOrMore : (is_end : Bool) (bytes : List ℕ) (read_to : Option (List ℕ)) → Type 0
IsEndOrMore true bytes read_to = (bytes ≡ []) × IsAtEnd read_to
IsEndOrMore false bytes read_to = length bytes ≡ 1

-- a part was decrypted up to the end of the input or to a limit in blocks, if there is one. If
-- nothing follows it, it has a block and its padding was taken off, and if more follows it has no
-- padding; `taken` is what was taken off
pub record DecryptsPart (decryption : List ℕ → List ℕ) (mode : BlockMode) (padding : Padding) (limit : Option ℕ)
    (passage : Passage) : Type 0 where
  pub taken : Padding
  pub middle : Option (List ℕ)
  pub rest : List ℕ
  pub part : Decrypts decryption mode taken (passage_of passage.read_from middle passage.written_from
      passage.written_to)
  pub ends : IsAtEnd middle ⊎ (limit ≡ Some (length part.q))
  pub within : IsWithin limit (length part.q)
  pub read : Consumes middle passage.read_to rest
  pub after : ((rest ≡ []) × IsAtEnd passage.read_to × (taken ≡ padding) × (part.q ≢ []))
      ⊎ ((length rest ≡ 1) × (taken ≡ Unpadded))

-- more follows a part of `count` blocks: `rest` was read after it, and the part has as many blocks
-- as its limit, if the reader tells its bytes
pub record IsFollowed (limit : Option ℕ) (count : ℕ) (rest : List ℕ) (read_from : Option (List ℕ)) : Type 0 where
  pub more : rest ≢ []
  pub reached : (bytes : List ℕ) → read_from ≡ Some bytes → limit ≡ Some count

-- what was written begins what was read, deciphered, within a limit in blocks, if there is one:
-- with the last block held back; or, only if the input is at its end, without the padding; or,
-- only if more follows the part, with its last block
pub record DecryptsPartPrefix (decryption : List ℕ → List ℕ) (mode : BlockMode) (padding : Padding) (limit : Option ℕ)
    (passage : Passage) : Type 0 where
  pub prefix : DeciphersPrefix decryption mode passage
  pub within : IsWithin limit (length prefix.q)
  pub pending : (IsHeldBack prefix.put prefix.missing
      ⊎ BeginsPlain padding prefix.p prefix.rest prefix.put passage.read_to)
      ⊎ IsFollowed limit (length prefix.q) prefix.rest passage.read_from
