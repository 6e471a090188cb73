-- What a fault says of the bytes that went from a reader through a cipher to a writer.
use Rattle.std.specs.Prelude.{◌≡◌, ◌≢◌, ℕ, ◌+◌, ◌-◌, ◌*◌, ◌/◌, ◌%◌, ◌<◌, List, [], Option, length, take, Result, Ok, Err}
use Rattle.std.specs.List.{All}
use Rattle.std.specs.Io.KnownBytes.{Consumes, Appends, IsAtEnd}
use Rattle.std.specs.IoError.{error_kind}
use Rattle.std.specs.declared.io.Error.{Error}
use Rattle.std.specs.declared.io.ErrorKind.TheVariants.{Interrupted}
use Rattle.des.specs.Blocks.{IsBlock}
use Rattle.des_io.specs.PaddedBytes.{padded, taken_off}
use Rattle.des_io.specs.CipherModes.{Deciphered}
use Rattle.des_io.specs.Streams.{joined, IsWithin, Passage}
use Rattle.des_io.specs.declared.mode.BlockMode.{BlockMode}
use Rattle.des_io.specs.declared.padding.Padding.{Padding}
use Rattle.des_io.specs.declared.padding.Padding.TheVariants.{Unpadded}
use Rattle.des_io.specs.declared.error.StreamError.{StreamError}
use Rattle.des_io.specs.declared.error.StreamError.TheVariants.{Read, Write, Length, Start, Padding as WrongPadding}

-- all was read, and `past` bytes follow the last whole block
pub record EndsInBlock (read_from read_to : Option (List ℕ)) (past : ℕ) : Type 0 where
  pub bytes : List ℕ
  pub read : Consumes read_from read_to bytes
  pub end : IsAtEnd read_to
  pub count : length bytes % 8 ≡ past
  pub some : past ≢ 0

-- all was read, blocks q, and p is q deciphered; no bytes are p with the padding that is taken off,
-- and all but the last block of p was written
pub record IsWronglyPadded (decryption : List ℕ → List ℕ) (mode : BlockMode) (padding : Padding) (passage : Passage)
    : Type 0 where
  pub q : List (List ℕ)
  pub p : List (List ℕ)
  pub read : Consumes passage.read_from passage.read_to (joined q)
  pub end : IsAtEnd passage.read_to
  pub blocks : All IsBlock q
  pub deciphered : Deciphered decryption mode q p
  pub wrong : (plain : List ℕ) → padded (taken_off padding) plain ≢ joined p
  pub written : Appends passage.written_from passage.written_to (take (length (joined p) - 8) (joined p))

-- the error is no interruption, after which a call is made again
abbrev pub IsLasting : (error : Error) → Type 0
IsLasting error = error_kind error ≢ Interrupted

-- the fault is one of reading
abbrev pub IsOfReading : (fault : StreamError) → Type 0
IsOfReading (Read error) = IsLasting error
IsOfReading _ = ⊥

-- the fault is one of writing
abbrev pub IsOfWriting : (fault : StreamError) → Type 0
IsOfWriting (Write error) = IsLasting error
IsOfWriting _ = ⊥

-- what a fault says of an encryption: padding is never wrong, and with padding any number of bytes
-- can be encrypted
abbrev pub FailsToEncrypt : (fault : StreamError) (padding : Padding) (read_from read_to : Option (List ℕ)) → Type 0
FailsToEncrypt (Length past) padding read_from read_to = (padding ≡ Unpadded) × EndsInBlock read_from read_to past
FailsToEncrypt Start padding read_from read_to = ⊥
FailsToEncrypt WrongPadding padding read_from read_to = ⊥
FailsToEncrypt (Read error) padding read_from read_to = IsLasting error
FailsToEncrypt (Write error) padding read_from read_to = IsLasting error

-- all was read, and `past` bytes follow the last whole block, within a limit in blocks, if there
-- is one
abbrev pub EndsInPart : (past : ℕ) (limit : Option ℕ) (read_from read_to : Option (List ℕ)) → Type 0
EndsInPart past limit read_from read_to =
    (ends : EndsInBlock read_from read_to past) × IsWithin limit (length ends.bytes / 8 + 1)

-- what a fault says of a decryption up to a limit in blocks, if there is one, before its padding
-- is looked at
abbrev pub FailsBefore : (fault : StreamError) (limit : Option ℕ) (read_from read_to : Option (List ℕ)) → Type 0
FailsBefore (Length past) limit read_from read_to = EndsInPart past limit read_from read_to
FailsBefore Start limit read_from read_to = ⊥
FailsBefore WrongPadding limit read_from read_to = ⊥
FailsBefore (Read error) limit read_from read_to = IsLasting error
FailsBefore (Write error) limit read_from read_to = IsLasting error

-- what the end of a stream gives, whose last block is `last`, or none: at success the writer has
-- the bytes that with the padding that is taken off are `last`; if there are none such, it is as it was; and at a
-- fault of writing it has a prefix of them
abbrev pub EndsStream : (padding : Padding) (last : List ℕ) (written_from written_to : Option (List ℕ))
    (result : Result (Unit {0}) StreamError) → Type 0
EndsStream padding last written_from written_to (Ok done) =
    (plain : List ℕ) × (padded (taken_off padding) plain ≡ last) × Appends written_from written_to plain
EndsStream padding last written_from written_to (Err WrongPadding) =
    ((plain : List ℕ) → padded (taken_off padding) plain ≢ last) × (written_to ≡ written_from)
EndsStream padding last written_from written_to (Err fault) =
    IsOfWriting fault
    × ((plain : List ℕ) × (k : ℕ) × (padded (taken_off padding) plain ≡ last)
    × Appends written_from written_to (take k plain))

-- what a fault says of a decryption
abbrev pub FailsToDecrypt : (fault : StreamError) (decryption : List ℕ → List ℕ) (mode : BlockMode) (padding : Padding)
    (passage : Passage) → Type 0
FailsToDecrypt (Length past) decryption mode padding passage = EndsInBlock passage.read_from passage.read_to past
FailsToDecrypt Start decryption mode padding passage = ⊥
FailsToDecrypt WrongPadding decryption mode padding passage = IsWronglyPadded decryption mode padding passage
FailsToDecrypt (Read error) decryption mode padding passage = IsLasting error
FailsToDecrypt (Write error) decryption mode padding passage = IsLasting error

-- ---- parts

-- all was read, and it is fewer bytes than `count` blocks have
pub record EndsBefore (count : ℕ) (read_from read_to : Option (List ℕ)) : Type 0 where
  pub bytes : List ℕ
  pub read : Consumes read_from read_to bytes
  pub end : IsAtEnd read_to
  pub short : length bytes < 8 * count

-- what a fault says if the `count` blocks before a part are read
abbrev pub FailsToSkip : (fault : StreamError) (count : ℕ) (read_from read_to : Option (List ℕ)) → Type 0
FailsToSkip (Read error) count read_from read_to = IsLasting error
FailsToSkip Start count read_from read_to = EndsBefore count read_from read_to
FailsToSkip _ count read_from read_to = ⊥

-- what a fault says of a part: the input has no block where it begins; its padding is wrong, and it
-- has a block, and no more than its limit; it ends within a block of the part; or the reader or the
-- writer failed
abbrev pub FailsInPart : (fault : StreamError) (decryption : List ℕ → List ℕ) (mode : BlockMode) (padding : Padding)
    (limit : Option ℕ) (passage : Passage) → Type 0
FailsInPart Start decryption mode padding limit passage =
    Consumes passage.read_from passage.read_to [] × IsAtEnd passage.read_to
FailsInPart WrongPadding decryption mode padding limit passage =
    (wrong : IsWronglyPadded decryption mode padding passage) × (wrong.q ≢ []) × IsWithin limit (length wrong.q)
FailsInPart (Length past) decryption mode padding limit passage =
    EndsInPart past limit passage.read_from passage.read_to
FailsInPart (Read error) decryption mode padding limit passage = IsLasting error
FailsInPart (Write error) decryption mode padding limit passage = IsLasting error
