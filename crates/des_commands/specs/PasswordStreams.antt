-- Streams under passwords, as `openssl enc` writes them (manual page openssl-enc(1)).
use Rattle.std.specs.Prelude.{◌≡◌, ◌≢◌, ◌⊎◌, ℕ, ◌+◌, ◌<◌, ◌==◌, ◌&&◌, Bool, true, false, if◌then◌else◌, List, [], ◌++◌, length, take, codes, Option, Some, None, Result, Err, IsOk}
use Rattle.std.specs.Io.KnownBytes.{Consumes, IsAtEnd}
use Rattle.des_io.specs.Streams.{Passage, passage_of}
use Rattle.des_passwords.specs.Derivations.{derived, IsDerivable}
use Rattle.des_lines.specs.declared.fault.Misuse.TheVariants.{Derivation as OtherDerivation}
use Rattle.des_lines.specs.declared.fault.FileFault.TheVariants.{NotSalted, SaltCut}
use Rattle.des_lines.specs.declared.fault.Reason.{Reason}
use Rattle.des_lines.specs.declared.fault.FaultKind.{FaultKind}
use Rattle.des_lines.specs.declared.fault.FaultKind.TheVariants.{Usage, Read, File, EmptyPassword}
use Rattle.des_requests.specs.declared.streams.Job.{Job}
use Rattle.des_commands.specs.declared.streams.passwords.PasswordJob.{PasswordJob}
use Rattle.des_lines.specs.declared.keys.Verdict.{Verdict}
use Rattle.des_commands.specs.declared.outputs.notices.Notice.{Notice}
use Rattle.des_lines.specs.Keys.{IsVerdict}
use Rattle.des_commands.specs.Notices.{ruling_of, notice_line}
use Rattle.des_lines.specs.Written.{AppendsPrefix}
use Rattle.des_commands.specs.Jobs.{IsDone}
use Rattle.des_requests.specs.StreamRequests.{key_size_of, IsJobOf}
use Rattle.des_commands.specs.JobFaults.{IsUntouched, HasStopped}

-- what encrypts is not empty
abbrev pub password_fault : (encrypts : Bool) → List ℕ → Option FaultKind
password_fault encrypts password = if encrypts && (length password == 0) then Some EmptyPassword else None

-- ---- the salt

-- what is read before what is decrypted, if the file has it, and the salt
abbrev pub IsSalt : (encrypts is_salted : Bool) → (random : List ℕ) → Option (List ℕ) → Option (List ℕ) → Option (List ℕ)
    → Type 0
IsSalt true is_salted random salt read_from read_to = (salt ≡ Some random) × (read_to ≡ read_from)
IsSalt false true random (Some salt) read_from read_to = Consumes read_from read_to (codes "Salted__" ++ salt)
IsSalt false true random None read_from read_to = ⊥
IsSalt false false random salt read_from read_to = (salt ≡ None) × (read_to ≡ read_from)

abbrev pub ReadsSalt : PasswordJob → Option (List ℕ) → Option (List ℕ) → Option (List ℕ) → Type 0
ReadsSalt job salt read_from read_to =
    IsSalt job.request.now.encrypts job.by.is_salted job.salt salt read_from read_to

-- the input is to begin with a salt
abbrev pub IsToHaveSalt : PasswordJob → Type 0
IsToHaveSalt job = (job.request.now.encrypts ≡ false) × (job.by.is_salted ≡ true)

-- no salt is read: the input begins otherwise, or ends within it, or can't be read
abbrev pub FailsToReadSalt : Option (List ℕ) → Option (List ℕ) → FaultKind → Type 0
FailsToReadSalt read_from read_to kind =
    ((bytes : List ℕ) × (Consumes read_from read_to bytes × (length bytes < 16 → IsAtEnd read_to)
    × (take 8 bytes ≢ codes "Salted__") × (kind ≡ File NotSalted)))
    ⊎ ((bytes : List ℕ) × (Consumes read_from read_to bytes × IsAtEnd read_to
    × (take 8 bytes ≡ codes "Salted__") × (length bytes < 16) × (kind ≡ File SaltCut)))
    ⊎ ((reason : Reason) × (kind ≡ Read reason))

-- the bytes of a salt; a stream without one has none
abbrev pub salt_bytes : Option (List ℕ) → List ℕ
salt_bytes None = []
salt_bytes (Some salt) = salt

-- ---- the stream

-- what is done for the request by the key and the vector that the password gives with a salt; `Salted__` and the salt go
-- before what is encrypted
pub record IsStreamOf (job : PasswordJob) (salt : Option (List ℕ)) (stream : Job) : Type 0 where
  pub key : List ℕ
  pub vector : List ℕ
  pub size : length key ≡ key_size_of job.request.now.cipher
  pub given : key ++ vector
      ≡ derived job.by.derivation job.password.now (salt_bytes salt) (key_size_of job.request.now.cipher + 8)
  pub by_key : IsJobOf job.request.now key vector (codes "Salted__" ++ job.salt) job.skipped stream

-- what the weak key test and `--weak-keys` say of the key
abbrev pub IsRuled : PasswordJob → List ℕ → Result (Option Notice) FaultKind → Type 0
IsRuled job key ruling =
    (verdict : Verdict) × IsVerdict verdict key
    × (ruling ≡ ruling_of job.request.now.weak_keys job.request.now.encrypts verdict)

-- nothing is told, or a prefix of a notice about the password's name
abbrev pub TellsOfKey : PasswordJob → Option (List ℕ) → Option (List ℕ) → Type 0
TellsOfKey job old new =
    (new ≡ old) ⊎ ((notice : Notice) × AppendsPrefix old new (notice_line notice job.name.now))

-- the salt was read, if the input has one, the key was taken, and what is asked for was done by it
pub record IsDoneByPassword (job : PasswordJob) (passage : Passage) : Type 0 where
  pub salt : Option (List ℕ)
  pub begun : Option (List ℕ)
  pub stream : Job
  pub reads : ReadsSalt job salt passage.read_from begun
  pub by_password : IsStreamOf job salt stream
  pub ruling : Result (Option Notice) FaultKind
  pub ruled : IsRuled job stream.key.now ruling
  pub taken : IsOk ruling
  pub done : IsDone stream (passage_of begun passage.read_to passage.written_from passage.written_to)

-- ---- a stream that ended before its time

-- there is no iteration
abbrev pub HasNoKey : FaultKind → PasswordJob → Type 0
HasNoKey kind job =
    (kind ≡ Usage OtherDerivation) × (¬ IsDerivable job.by.derivation (key_size_of job.request.now.cipher + 8))

-- after the salt there is no key, or it is refused, and nothing more was read or written; or the stream has stopped
abbrev pub StopsAfterSalt : FaultKind → PasswordJob → (salt : Option (List ℕ)) → Passage → Type 0
StopsAfterSalt kind job salt passage =
    (HasNoKey kind job × IsUntouched passage)
    ⊎ ((stream : Job) × IsStreamOf job salt stream
    × ((IsRuled job stream.key.now (Err kind) × IsUntouched passage) ⊎ HasStopped kind stream passage))

-- no salt was read if there is to be one, and nothing was written; or the stream has stopped after it
abbrev pub StopsByPassword : FaultKind → PasswordJob → Passage → Type 0
StopsByPassword kind job passage =
    (IsToHaveSalt job × FailsToReadSalt passage.read_from passage.read_to kind
    × (passage.written_to ≡ passage.written_from))
    ⊎ ((salt : Option (List ℕ)) × (begun : Option (List ℕ)) × ReadsSalt job salt passage.read_from begun
    × StopsAfterSalt kind job salt (passage_of begun passage.read_to passage.written_from passage.written_to))
