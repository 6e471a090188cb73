-- What a stream is to be: which cipher a name means, and what is made of an input or of a part of one.
use Rattle.std.specs.Prelude.{◌≡◌, ◌≢◌, ◌⊎◌, ℕ, ◌-◌, ◌*◌, ◌%◌, ◌^◌, min, List, ◌++◌, length, drop, replicate, Option, Some, None, ⊤, [], ◌+◌}
use Rattle.std.specs.Io.KnownBytes.{Appends, IsAtEnd}
use Rattle.des.specs.Blocks.{AreBytes, IsBlock}
use Rattle.des.specs.Des.{encryption, decryption}
use Rattle.des.specs.Relations.{AgreeOnBlocks}
use Rattle.des.specs.TripleCiphers.{ede3_encryption, ede3_decryption, ede2_encryption, ede2_decryption}
use Rattle.des_io.specs.Streams.{Passage, passage_of, Encrypts, Decrypts, Skips, DecryptsPart}
use Rattle.des_modes.specs.Cfb.{Cfb as InCfb}
use Rattle.des_modes.specs.Ctr.{Ctr as InCtr}
use Rattle.des_modes.specs.States.{IsStreamAt}
use Rattle.des_modes.specs.declared.direction.Direction.TheVariants.{Encrypt as Encrypting, Decrypt as Decrypting}
use Rattle.des_modes.specs.declared.modes.TheConstants.{CFB1, CTR, OFB}
use Rattle.des_modes.specs.declared.stream.Stream.{Stream as StreamState}
use Rattle.des_io.specs.StreamCiphers.{Applies}
use Rattle.des_io.specs.declared.mode.BlockMode.{BlockMode}
use Rattle.des_io.specs.declared.mode.BlockMode.TheVariants.{Ecb, Cbc}
use Rattle.des_io.specs.declared.padding.Padding.{Padding}
use Rattle.des_requests.specs.declared.streams.Cipher.{Cipher}
use Rattle.des_requests.specs.declared.streams.Cipher.TheVariants.{Des, TdesEde2, TdesEde3}
use Rattle.des_requests.specs.declared.streams.CipherMode.{CipherMode}
use Rattle.des_requests.specs.declared.streams.CipherMode.TheVariants.{Stream}
use Rattle.des_requests.specs.declared.streams.StreamMode.{StreamMode}
use Rattle.des_requests.specs.declared.streams.StreamMode.TheVariants.{Cfb, Cfb8, Ofb, Ctr}
use Rattle.des_requests.specs.declared.streams.BlockRange.{BlockRange}
use Rattle.des_requests.specs.declared.streams.Job.{Job}
use Rattle.des_requests.specs.declared.streams.Work.{Work}
use Rattle.des_requests.specs.declared.streams.Work.TheVariants.{Encrypt, Decrypt}
use Rattle.des_requests.specs.StreamRequests.{from_of, key_size_of}

-- ---- ciphers

-- what a key makes of a block, under the cipher of a name; the graph of each is the relation of its
-- standard (FIPS 46-3)
abbrev pub encryption_of : Cipher → List ℕ → List ℕ → List ℕ
encryption_of Des key = encryption key
encryption_of TdesEde2 key = ede2_encryption key
encryption_of TdesEde3 key = ede3_encryption key

abbrev pub decryption_of : Cipher → List ℕ → List ℕ → List ℕ
decryption_of Des key = decryption key
decryption_of TdesEde2 key = ede2_decryption key
decryption_of TdesEde3 key = ede3_decryption key

-- a name means the cipher with this key size and these functions
abbrev pub IsNamed : Cipher → (key_size : ℕ) (encrypts decrypts : List ℕ → List ℕ → List ℕ) → Type 0
IsNamed cipher key_size encrypts decrypts =
    (key_size ≡ key_size_of cipher)
    × ((key : List ℕ) → encrypts key ≡ encryption_of cipher key)
    × ((key : List ℕ) → decrypts key ≡ decryption_of cipher key)

-- CBC goes on from a block
abbrev pub GoesOnFromBlock : BlockMode → Type 0
GoesOnFromBlock Ecb = ⊤
GoesOnFromBlock (Cbc vector) = IsBlock vector

-- functions make of each block what a job's key does, and blocks are all that they are asked for, since CBC goes on from
-- one
pub record AreOfKey (encrypted decrypted : List ℕ → List ℕ) (job : Job) : Type 0 where
  pub encrypts : AgreeOnBlocks encrypted (encryption_of job.cipher job.key.now)
  pub decrypts : AgreeOnBlocks decrypted (decryption_of job.cipher job.key.now)
  pub from_block : GoesOnFromBlock job.begin

-- ---- what is done

-- all that is left is decrypted, up to the end, or the blocks of a part
abbrev pub DecryptsHere : (answer : List ℕ → List ℕ) (mode : BlockMode) (padding : Padding) (part : Option BlockRange)
    (passage : Passage) → Type 0
DecryptsHere answer mode padding None passage = Decrypts answer mode padding passage × IsAtEnd passage.read_to
DecryptsHere answer mode padding (Some part) passage = DecryptsPart answer mode padding part.count passage

-- the heading is written, and all that is left is encrypted, up to the end; or a number of blocks is passed over, and
-- from there on it is decrypted
abbrev pub DoesPadded : (encrypted decrypted : List ℕ → List ℕ) (mode : BlockMode) (padding : Padding) (work : Work)
    (passage : Passage) → Type 0
DoesPadded encrypted decrypted mode padding (Encrypt heading) passage =
    (headed : Option (List ℕ)) × Appends passage.written_from headed heading.now
    × Encrypts encrypted mode padding (passage_of passage.read_from passage.read_to headed passage.written_to)
    × IsAtEnd passage.read_to
DoesPadded encrypted decrypted mode padding (Decrypt skipped part) passage =
    (next : BlockMode) × (begun : Option (List ℕ)) × Skips mode next skipped passage.read_from begun
    × DecryptsHere decrypted next padding part
    (passage_of begun passage.read_to passage.written_from passage.written_to)

-- ---- stream ciphers

-- the vector that a mode goes on from
abbrev pub vector_of : BlockMode → List ℕ
vector_of Ecb = replicate 8 0
vector_of (Cbc vector) = vector

-- cipher feedback with segments of s bytes goes on behind eight bytes, before a segment
abbrev pub GoesOnBehind : (s : ℕ) (before : List ℕ) (stream : StreamState) → Type 0
GoesOnBehind s before stream =
    (encryption : List ℕ → List ℕ) (iv p c : List ℕ) → IsBlock iv → AreBytes c → length c % s ≡ 0
    → before ≡ drop (length c) (iv ++ c) → InCfb s encryption iv p c → IsStreamAt (CFB1 + s) encryption iv p c stream

-- a stream at its beginning, or in it from a block on: its counter is that of this block, cipher feedback goes on behind the
-- eight bytes before it, and output feedback begins with the stream
abbrev pub Begins : StreamMode → (vector before : List ℕ) → (from : ℕ) → StreamState → Type 0
Begins Ctr vector before from stream =
    (encryption : List ℕ → List ℕ) (p c : List ℕ) → length p ≡ 8 * from → AreBytes c → InCtr encryption vector p c
    → IsStreamAt CTR encryption vector p c stream
Begins Ofb vector before from stream = (encryption : List ℕ → List ℕ) → IsStreamAt OFB encryption vector [] [] stream
Begins Cfb vector before from stream = GoesOnBehind 8 before stream
Begins Cfb8 vector before from stream = GoesOnBehind 1 before stream

-- the bytes of this many blocks, or of a whole stream, which has no more than 2^64 - 1
abbrev pub bytes_of_blocks : Option ℕ → ℕ
bytes_of_blocks None = 2 ^ 64 - 1
bytes_of_blocks (Some count) = min (count * 8) (2 ^ 64 - 1)

-- the bytes of a part at most
abbrev pub bytes_at_most : Option BlockRange → ℕ
bytes_at_most None = bytes_of_blocks None
bytes_at_most (Some part) = bytes_of_blocks part.count

-- the vector, if it is the first block, and the other blocks before a part are passed over, and the stream goes on there
pub record Reaches (mode : StreamMode) (job : Job) (skipped : ℕ) (part : Option BlockRange)
    (read_from begun : Option (List ℕ)) (stream : StreamState) : Type 0 where
  pub first : BlockMode
  pub last : BlockMode
  pub middle : Option (List ℕ)
  pub vector : Skips job.begin first (min skipped job.vectors) read_from middle
  pub others : Skips first last (skipped - min skipped job.vectors) middle begun
  pub begins : Begins mode (vector_of first) (vector_of last) (from_of part) stream

-- the heading is written, and all that is left is encrypted; or all that is left, or a part that has a byte, is decrypted
abbrev pub DoesStream : (encryption : List ℕ → List ℕ) (mode : StreamMode) (job : Job) (work : Work) (passage : Passage) → Type 0
DoesStream encryption mode job (Encrypt heading) passage =
    (headed : Option (List ℕ)) × (stream : StreamState) × (count : ℕ)
    × Appends passage.written_from headed heading.now
    × Begins mode (vector_of job.begin) (vector_of job.begin) 0 stream
    × Applies encryption Encrypting stream (2 ^ 64 - 1) count
    (passage_of passage.read_from passage.read_to headed passage.written_to)
DoesStream encryption mode job (Decrypt skipped part) passage =
    (begun : Option (List ℕ)) × (stream : StreamState) × (count : ℕ)
    × Reaches mode job skipped part passage.read_from begun stream
    × Applies encryption Decrypting stream (bytes_at_most part) count
    (passage_of begun passage.read_to passage.written_from passage.written_to)
    × ((part ≡ None) ⊎ (count ≢ 0))

-- ---- jobs

-- a job is done by functions of blocks
abbrev pub Does : (encrypted decrypted : List ℕ → List ℕ) (mode : CipherMode) (job : Job) (passage : Passage) → Type 0
Does encrypted decrypted (Stream mode) job passage = DoesStream encrypted mode job job.work passage
Does encrypted decrypted mode job passage = DoesPadded encrypted decrypted job.begin job.padding job.work passage

-- a job is done by its key
pub record IsDone (job : Job) (passage : Passage) : Type 0 where
  pub encrypted : List ℕ → List ℕ
  pub decrypted : List ℕ → List ℕ
  pub of_key : AreOfKey encrypted decrypted job
  pub done : Does encrypted decrypted job.mode job passage
