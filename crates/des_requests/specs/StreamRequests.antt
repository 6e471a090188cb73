-- What a request asks of a stream: where its secret is, how its first block goes on, what is written before the
-- ciphertext, and the blocks before a part.
use Rattle.std.specs.Prelude.{◌≡◌, ℕ, ◌+◌, ◌-◌, ◌^◌, min, Bool, true, false, List, [], replicate, Option, Some, None}
use Rattle.des_io.specs.declared.mode.BlockMode.{BlockMode}
use Rattle.des_io.specs.declared.mode.BlockMode.TheVariants.{Ecb, Cbc}
use Rattle.des_lines.specs.declared.source.Source.{Source}
use Rattle.des_requests.specs.declared.streams.Cipher.{Cipher}
use Rattle.des_requests.specs.declared.streams.Cipher.TheVariants.{Des, TdesEde2, TdesEde3}
use Rattle.des_requests.specs.declared.streams.CipherMode.{CipherMode}
use Rattle.des_requests.specs.declared.streams.CipherMode.TheVariants.{Ecb as InEcb, Stream}
use Rattle.des_requests.specs.declared.streams.StreamMode.TheVariants.{Ofb}
use Rattle.des_requests.specs.declared.streams.Vector.{Vector}
use Rattle.des_requests.specs.declared.streams.Vector.TheVariants.{Bytes, Random, FirstBlock}
use Rattle.des_requests.specs.declared.streams.BlockRange.{BlockRange}
use Rattle.des_requests.specs.declared.streams.Secret.{Secret}
use Rattle.des_requests.specs.declared.streams.Secret.TheVariants.{Key, Password}
use Rattle.des_requests.specs.declared.streams.StreamRequest.{StreamRequest}
use Rattle.des_requests.specs.declared.streams.Job.{Job}
use Rattle.des_requests.specs.declared.streams.Work.{Work}
use Rattle.des_requests.specs.declared.streams.Work.TheVariants.{Encrypt, Decrypt}

-- where the key or the password is
abbrev pub source_of : Secret → Source
source_of (Key source) = source
source_of (Password source by) = source

-- the bytes of a key
abbrev pub key_size_of : Cipher → ℕ
key_size_of Des = 8
key_size_of TdesEde2 = 16
key_size_of TdesEde3 = 24

-- all modes but ECB take a vector; those of stream ciphers take no padding; and in all but output feedback a part can be
-- decrypted alone
abbrev pub takes_vector : CipherMode → Bool
takes_vector InEcb = false
takes_vector _ = true

abbrev pub is_stream : CipherMode → Bool
is_stream (Stream mode) = true
is_stream _ = false

abbrev pub takes_part : CipherMode → Bool
takes_part (Stream Ofb) = false
takes_part _ = true

-- how the first block that is read goes on, by a vector that is random or of a password, if one is asked for. A vector
-- that is the first block is passed over, by CBC from a block of zeros
abbrev pub begin_of : Option Vector → List ℕ → BlockMode
begin_of None vector = Ecb
begin_of (Some (Bytes iv)) vector = Cbc iv
begin_of (Some FirstBlock) vector = Cbc (replicate 8 0)
begin_of (Some _) vector = Cbc vector

-- what is written before the ciphertext: a random vector
abbrev pub heading_of : Option Vector → List ℕ → List ℕ
heading_of (Some Random) random = random
heading_of _ random = []

-- the blocks at the beginning of the input that are the vector
abbrev pub vectors_of : Option Vector → ℕ
vectors_of (Some FirstBlock) = 1
vectors_of _ = 0

-- the blocks before a part, the first block being 0
abbrev pub from_of : Option BlockRange → ℕ
from_of None = 0
from_of (Some part) = part.from

-- the blocks that are passed over: those before the part, and one more if the first is the vector. They are counted
-- up to 2^64 - 1; no input has more
abbrev pub blocks_before : Option Vector → Option BlockRange → ℕ
blocks_before vector part = min (from_of part + vectors_of vector) (2 ^ 64 - 1)

-- the work of a direction
abbrev pub IsWork : (encrypts : Bool) → (heading : List ℕ) → (skipped : ℕ) → Option BlockRange → Work → Type 0
IsWork true heading skipped part (Encrypt written) = written.now ≡ heading
IsWork false heading skipped part (Decrypt passed wanted) = (passed ≡ skipped) × (wanted ≡ part)
IsWork _ heading skipped part work = ⊥

-- what is done for a request by a key, from a vector, with a heading, and after a number of blocks that are passed over
abbrev pub IsJobOf : StreamRequest → (key vector heading : List ℕ) (skipped : ℕ) → Job → Type 0
IsJobOf request key vector heading skipped job =
    (job.cipher ≡ request.cipher) × (job.key.now ≡ key) × (job.mode ≡ request.mode)
    × (job.begin ≡ begin_of request.vector vector) × (job.vectors ≡ vectors_of request.vector)
    × (job.padding ≡ request.padding) × IsWork request.encrypts heading skipped request.part job.work
