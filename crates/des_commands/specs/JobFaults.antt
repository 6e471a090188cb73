-- What a stream that ended before its time has written, and what its fault says.
use Rattle.std.specs.Prelude.{◌≡◌, ◌≢◌, ◌⊎◌, ℕ, ◌-◌, ◌^◌, min, List, length, Option, Some, None}
use Rattle.std.specs.Io.KnownBytes.{Appends}
use Rattle.des_io.specs.Streams.{Passage, passage_of, EncryptsPrefix, DecryptsPrefix, DecryptsPartPrefix, Skips}
use Rattle.des_io.specs.StreamFaults.{FailsToEncrypt, FailsToDecrypt, FailsToSkip, FailsInPart, IsOfReading, IsOfWriting}
use Rattle.des_io.specs.StreamCiphers.{Applies, AppliesPrefix}
use Rattle.des_modes.specs.declared.direction.Direction.TheVariants.{Encrypt as Encrypting, Decrypt as Decrypting}
use Rattle.des_modes.specs.declared.stream.Stream.{Stream as StreamState}
use Rattle.des_io.specs.declared.error.StreamError.{StreamError}
use Rattle.des_io.specs.declared.error.StreamError.TheVariants.{Start}
use Rattle.des_io.specs.declared.mode.BlockMode.{BlockMode}
use Rattle.des_io.specs.declared.padding.Padding.{Padding}
use Rattle.des_lines.specs.declared.fault.FaultKind.{FaultKind}
use Rattle.des_lines.specs.declared.fault.FaultKind.TheVariants.{KeyLength, Memory}
use Rattle.des_requests.specs.StreamRequests.{key_size_of}
use Rattle.des_requests.specs.declared.streams.CipherMode.{CipherMode}
use Rattle.des_requests.specs.declared.streams.CipherMode.TheVariants.{Stream}
use Rattle.des_requests.specs.declared.streams.StreamMode.{StreamMode}
use Rattle.des_requests.specs.declared.streams.BlockRange.{BlockRange}
use Rattle.des_requests.specs.declared.streams.Job.{Job}
use Rattle.des_requests.specs.declared.streams.Work.{Work}
use Rattle.des_requests.specs.declared.streams.Work.TheVariants.{Encrypt, Decrypt}
use Rattle.des_lines.specs.Faults.{IsOfStream}
use Rattle.des_lines.specs.Written.{AppendsPrefix}
use Rattle.des_commands.specs.Jobs.{AreOfKey, vector_of, Begins, bytes_at_most, Reaches}

-- nothing was read, and nothing was written
abbrev pub IsUntouched : Passage → Type 0
IsUntouched passage = (passage.read_to ≡ passage.read_from) × (passage.written_to ≡ passage.written_from)

-- memory was refused, or the key does not have the bytes that the cipher takes
abbrev pub LacksKeyOrMemory : FaultKind → Job → Type 0
LacksKeyOrMemory kind job =
    (kind ≡ Memory)
    ⊎ ((kind ≡ KeyLength (Some (key_size_of job.cipher))) × (length job.key.now ≢ key_size_of job.cipher))

-- what was written begins the plaintext of all that is read, or of a part, and what the fault says
abbrev pub StopsHere : (fault : StreamError) (answer : List ℕ → List ℕ) (mode : BlockMode) (padding : Padding)
    (part : Option BlockRange) (passage : Passage) → Type 0
StopsHere fault answer mode padding None passage =
    DecryptsPrefix answer mode padding passage × FailsToDecrypt fault answer mode padding passage
StopsHere fault answer mode padding (Some part) passage =
    DecryptsPartPrefix answer mode padding part.count passage × FailsInPart fault answer mode padding part.count passage

-- to encrypt, nothing was read, and a prefix of the heading was written, or after the heading what begins the
-- ciphertext; to decrypt, it ended where blocks are passed over, and nothing was written, or after them
abbrev pub StopsPadded : (fault : StreamError) (encrypted decrypted : List ℕ → List ℕ) (mode : BlockMode) (padding : Padding)
    (work : Work) (passage : Passage) → Type 0
StopsPadded fault encrypted decrypted mode padding (Encrypt heading) passage =
    (IsOfWriting fault × (passage.read_to ≡ passage.read_from)
    × AppendsPrefix passage.written_from passage.written_to heading.now)
    ⊎ ((headed : Option (List ℕ)) × Appends passage.written_from headed heading.now
    × EncryptsPrefix encrypted mode padding (passage_of passage.read_from passage.read_to headed passage.written_to)
    × FailsToEncrypt fault padding passage.read_from passage.read_to)
StopsPadded fault encrypted decrypted mode padding (Decrypt skipped part) passage =
    (FailsToSkip fault skipped passage.read_from passage.read_to × (passage.written_to ≡ passage.written_from))
    ⊎ ((next : BlockMode) × (begun : Option (List ℕ)) × Skips mode next skipped passage.read_from begun
    × StopsHere fault decrypted next padding part
    (passage_of begun passage.read_to passage.written_from passage.written_to))

-- a stream ended so: where blocks are passed over, the vector first, and nothing was written; where the reader or the writer
-- failed; or there was no byte where a part begins
abbrev pub StopsStream : (fault : StreamError) (encryption : List ℕ → List ℕ) (mode : StreamMode) (job : Job) (work : Work)
    (passage : Passage) → Type 0
StopsStream fault encryption mode job (Encrypt heading) passage =
    (IsOfWriting fault × (passage.read_to ≡ passage.read_from)
    × AppendsPrefix passage.written_from passage.written_to heading.now)
    ⊎ ((headed : Option (List ℕ)) × (stream : StreamState) × Appends passage.written_from headed heading.now
    × Begins mode (vector_of job.begin) (vector_of job.begin) 0 stream
    × AppliesPrefix encryption Encrypting stream (2 ^ 64 - 1)
    (passage_of passage.read_from passage.read_to headed passage.written_to) × (IsOfReading fault ⊎ IsOfWriting fault))
StopsStream fault encryption mode job (Decrypt skipped part) passage =
    (FailsToSkip fault (min skipped job.vectors) passage.read_from passage.read_to
    × (passage.written_to ≡ passage.written_from))
    ⊎ ((first : BlockMode) × (middle : Option (List ℕ))
    × Skips job.begin first (min skipped job.vectors) passage.read_from middle
    × FailsToSkip fault (skipped - min skipped job.vectors) middle passage.read_to
    × (passage.written_to ≡ passage.written_from))
    ⊎ ((begun : Option (List ℕ)) × (stream : StreamState) × Reaches mode job skipped part passage.read_from begun stream
    × ((AppliesPrefix encryption Decrypting stream (bytes_at_most part)
    (passage_of begun passage.read_to passage.written_from passage.written_to) × (IsOfReading fault ⊎ IsOfWriting fault))
    ⊎ (Applies encryption Decrypting stream (bytes_at_most part) 0
    (passage_of begun passage.read_to passage.written_from passage.written_to) × (part ≢ None) × (fault ≡ Start))))

-- a job has stopped by functions of blocks
abbrev pub Stops : (fault : StreamError) (encrypted decrypted : List ℕ → List ℕ) (mode : CipherMode) (job : Job)
    (passage : Passage) → Type 0
Stops fault encrypted decrypted (Stream mode) job passage = StopsStream fault encrypted mode job job.work passage
Stops fault encrypted decrypted mode job passage =
    StopsPadded fault encrypted decrypted job.begin job.padding job.work passage

-- a job has stopped by its key
pub record StopsByKey (kind : FaultKind) (job : Job) (passage : Passage) : Type 0 where
  pub encrypted : List ℕ → List ℕ
  pub decrypted : List ℕ → List ℕ
  pub of_key : AreOfKey encrypted decrypted job
  pub fault : StreamError
  pub same : IsOfStream fault kind
  pub stops : Stops fault encrypted decrypted job.mode job passage

-- a job has stopped: before anything is read or written, or in its stream
abbrev pub HasStopped : FaultKind → Job → Passage → Type 0
HasStopped kind job passage = (LacksKeyOrMemory kind job × IsUntouched passage) ⊎ StopsByKey kind job passage
