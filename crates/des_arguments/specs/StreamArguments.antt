-- What the arguments of `encrypt` and `decrypt` ask for.
use Rattle.std.specs.Prelude.{◌≡◌, ◌≢◌, ◌⊎◌, ℕ, Bool, true, false, List, ◌++◌, codes, Option, Some, None, Result, Ok, Err}
use Rattle.std.specs.Borrow.{Bor}
use Rattle.des_io.specs.declared.padding.Padding.{Padding}
use Rattle.des_io.specs.declared.padding.Padding.TheVariants.{Pkcs7, Iso7816, Zeros, Unpadded}
use Rattle.des_lines.specs.declared.fault.Misuse.TheVariants.{Arguments, StandardInputTwice, VectorNeeded, VectorOfEcb, VectorOfPassword, RandomToDecrypt, FirstBlockToEncrypt, PartToEncrypt, PaddingOfStream, PartOfOfb}
use Rattle.des_lines.specs.declared.fault.FaultKind.{FaultKind}
use Rattle.des_lines.specs.declared.fault.FaultKind.TheVariants.{Usage, Vector as WrongVector}
use Rattle.des_lines.specs.declared.source.Source.{Source}
use Rattle.des_lines.specs.declared.source.Source.TheVariants.{StandardInput}
use Rattle.des_requests.specs.declared.streams.Cipher.{Cipher}
use Rattle.des_requests.specs.declared.streams.Cipher.TheVariants.{Des, TdesEde2, TdesEde3}
use Rattle.des_requests.specs.declared.streams.Vector.{Vector}
use Rattle.des_requests.specs.declared.streams.Vector.TheVariants.{Bytes, Random, FirstBlock, OfPassword}
use Rattle.des_requests.specs.declared.streams.CipherMode.{CipherMode}
use Rattle.des_requests.specs.declared.streams.CipherMode.TheVariants.{Ecb, Cbc, Stream}
use Rattle.des_requests.specs.declared.streams.StreamMode.TheVariants.{Cfb, Cfb8, Ofb, Ctr}
use Rattle.des_requests.specs.declared.streams.Secret.{Secret}
use Rattle.des_requests.specs.declared.streams.Secret.TheVariants.{Key, Password}
use Rattle.des_requests.specs.declared.streams.BlockRange.{BlockRange}
use Rattle.des_requests.specs.declared.streams.WeakKeys.{WeakKeys}
use Rattle.des_requests.specs.declared.streams.WeakKeys.TheVariants.{Refuse, Warn, Accept}
use Rattle.des_requests.specs.declared.streams.Output.{Output}
use Rattle.des_requests.specs.declared.streams.Output.TheVariants.{Unnamed, StandardOutput, File as OutputFile}
use Rattle.des_requests.specs.declared.streams.StreamRequest.{StreamRequest}
use Rattle.des_arguments.specs.declared.arguments.streams.StreamArguments.{StreamArguments}
use Rattle.des_requests.specs.Inputs.{IsInput}
use Rattle.des_requests.specs.StreamRequests.{source_of, takes_vector, is_stream, takes_part}
use Rattle.des_lines.specs.Texts.{bytes_of, digits_fault}

-- ---- arguments

-- the name of a cipher in a mode, OpenSSL's if that has one
abbrev pub cipher_word : Cipher → List ℕ
cipher_word Des = codes "des"
cipher_word TdesEde2 = codes "des-ede"
cipher_word TdesEde3 = codes "des-ede3"

abbrev pub mode_word : CipherMode → List ℕ
mode_word Ecb = codes "-ecb"
mode_word Cbc = codes "-cbc"
mode_word (Stream Cfb) = codes "-cfb"
mode_word (Stream Cfb8) = codes "-cfb8"
mode_word (Stream Ofb) = codes "-ofb"
mode_word (Stream Ctr) = codes "-ctr"

abbrev pub cipher_name : Cipher → CipherMode → List ℕ
cipher_name cipher mode = cipher_word cipher ++ mode_word mode

abbrev pub padding_word : Padding → List ℕ
padding_word Pkcs7 = codes "pkcs7"
padding_word Iso7816 = codes "iso7816"
padding_word Zeros = codes "zeros"
padding_word Unpadded = codes "none"

abbrev pub weak_keys_word : WeakKeys → List ℕ
weak_keys_word Refuse = codes "refuse"
weak_keys_word Warn = codes "warn"
weak_keys_word Accept = codes "accept"

-- what is done with a weak key if no word says so: old data stay readable
abbrev pub default_weak_keys : (encrypts : Bool) → WeakKeys
default_weak_keys true = Refuse
default_weak_keys false = Warn

-- the text of an option, or another if it is not given
abbrev pub text_or : Option (Bor (List ℕ)) → List ℕ → List ℕ
text_or None other = other
text_or (Some text) other = text.now

-- ---- vectors

-- the vector of a text: a word, in the direction that it is for, or 16 hexadecimal digits
abbrev pub IsVector : List ℕ → (encrypts : Bool) → Vector → Type 0
IsVector text true Random = text ≡ codes "random"
IsVector text false FirstBlock = text ≡ codes "first-block"
IsVector text encrypts (Bytes iv) = (digits_fault 8 WrongVector WrongVector text ≡ None) × (iv ≡ bytes_of text)
IsVector text encrypts _ = ⊥

-- why a text is no vector: it is the word of the other direction, or neither a word nor 16 digits
abbrev pub FailsAsVector : List ℕ → (encrypts : Bool) → FaultKind → Type 0
FailsAsVector text encrypts kind =
    ((encrypts ≡ false) × (text ≡ codes "random") × (kind ≡ Usage RandomToDecrypt))
    ⊎ ((encrypts ≡ true) × (text ≡ codes "first-block") × (kind ≡ Usage FirstBlockToEncrypt))
    ⊎ ((text ≢ codes "random") × (text ≢ codes "first-block")
    × (digits_fault 8 WrongVector WrongVector text ≡ Some WrongVector) × (kind ≡ WrongVector))

-- the vector, if the mode takes one: that of the option, by a key, or of the password
abbrev pub IsVectorFor : Option (Bor (List ℕ)) → Secret → (takes_vector encrypts : Bool) → Option Vector → Type 0
IsVectorFor None secret false encrypts vector = vector ≡ None
IsVectorFor None (Password source by) true encrypts vector = vector ≡ Some OfPassword
IsVectorFor (Some text) (Key source) true encrypts (Some vector) = IsVector text.now encrypts vector
IsVectorFor _ _ _ encrypts vector = ⊥

abbrev pub FailsAsVectorFor : Option (Bor (List ℕ)) → Secret → (takes_vector encrypts : Bool) → FaultKind → Type 0
FailsAsVectorFor None (Key source) true encrypts kind = kind ≡ Usage VectorNeeded
FailsAsVectorFor (Some text) (Key source) true encrypts kind = FailsAsVector text.now encrypts kind
FailsAsVectorFor (Some text) (Key source) false encrypts kind = kind ≡ Usage VectorOfEcb
FailsAsVectorFor (Some text) (Password source by) takes_vector encrypts kind = kind ≡ Usage VectorOfPassword
FailsAsVectorFor _ _ _ encrypts kind = ⊥

-- ---- parts

-- the part of two numbers: from a block on, the first being 0, and at most this number of them
abbrev pub part_between : (from count : Option ℕ) → Option BlockRange
part_between None None = None
part_between (Some from) count = Some record { from = from; count = count }
part_between None (Some count) = Some record { from = 0; count = Some count }

-- a part is decrypted, and none is encrypted
abbrev pub part_for : (encrypts : Bool) (from count : Option ℕ) → Result (Option BlockRange) FaultKind
part_for false from count = Ok (part_between from count)
part_for true None None = Ok None
part_for true from count = Err (Usage PartToEncrypt)

-- ---- files

-- standard output, as `-` asks for, a file, or neither
abbrev pub IsOutput : Option (Bor (List ℕ)) → Output → Type 0
IsOutput None output = output ≡ Unnamed
IsOutput (Some path) StandardOutput = path.now ≡ codes "-"
IsOutput (Some path) (OutputFile file) = (path.now ≢ codes "-") × (file ≡ path)
IsOutput (Some path) Unnamed = ⊥

-- both are standard input
abbrev pub IsReadTwice : Source → Source → Type 0
IsReadTwice first second = (first ≡ StandardInput) × (second ≡ StandardInput)

-- ---- the whole

-- each word has its meaning in the request, and standard input is read once
pub record IsRequest (arguments : StreamArguments) (request : StreamRequest) : Type 0 where
  pub direction : request.encrypts ≡ arguments.encrypts
  pub name : arguments.cipher.now ≡ cipher_name request.cipher request.mode
  pub vector : IsVectorFor arguments.iv arguments.secret (takes_vector request.mode) arguments.encrypts request.vector
  pub unpadded : is_stream request.mode ≡ true → arguments.padding ≡ None
  pub alone : request.part ≢ None → takes_part request.mode ≡ true
  pub padding : padding_word request.padding ≡ text_or arguments.padding (codes "pkcs7")
  pub weak_keys : weak_keys_word request.weak_keys
      ≡ text_or arguments.weak_keys (weak_keys_word (default_weak_keys arguments.encrypts))
  pub part : part_for arguments.encrypts arguments.from arguments.count ≡ Ok request.part
  pub secret : request.secret ≡ arguments.secret
  pub coding : request.coding ≡ arguments.coding
  pub input : IsInput arguments.input request.input
  pub output : IsOutput arguments.output request.output
  pub progress : request.shows_progress ≡ arguments.shows_progress
  pub once : ¬ IsReadTwice (source_of request.secret) request.input

-- a word is none of those that its option takes
abbrev pub HasOtherWord : StreamArguments → Type 0
HasOtherWord arguments =
    ((cipher : Cipher) (mode : CipherMode) → arguments.cipher.now ≢ cipher_name cipher mode)
    ⊎ ((padding : Padding) → padding_word padding ≢ text_or arguments.padding (codes "pkcs7"))
    ⊎ ((choice : WeakKeys)
    → weak_keys_word choice ≢ text_or arguments.weak_keys (weak_keys_word (default_weak_keys arguments.encrypts)))

-- why the arguments of a mode ask for nothing: padding of a stream cipher, a part of what is decrypted as a whole, or the vector
abbrev pub FailsInMode : StreamArguments → CipherMode → FaultKind → Type 0
FailsInMode arguments mode kind =
    ((is_stream mode ≡ true) × (arguments.padding ≢ None) × (kind ≡ Usage PaddingOfStream))
    ⊎ ((takes_part mode ≡ false) × (part_between arguments.from arguments.count ≢ None) × (kind ≡ Usage PartOfOfb))
    ⊎ FailsAsVectorFor arguments.iv arguments.secret (takes_vector mode) arguments.encrypts kind

-- why arguments ask for nothing
abbrev pub FailsAsRequest : StreamArguments → FaultKind → Type 0
FailsAsRequest arguments kind =
    (HasOtherWord arguments × (kind ≡ Usage Arguments))
    ⊎ (part_for arguments.encrypts arguments.from arguments.count ≡ Err kind)
    ⊎ ((cipher : Cipher) × (mode : CipherMode) × (arguments.cipher.now ≡ cipher_name cipher mode)
    × FailsInMode arguments mode kind)
    ⊎ ((input : Source) × IsInput arguments.input input × IsReadTwice (source_of arguments.secret) input
    × (kind ≡ Usage StandardInputTwice))
