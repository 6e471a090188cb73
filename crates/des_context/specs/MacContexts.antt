-- What the words of a MAC and its message stand for.
use Rattle.std.specs.Prelude.{◌≡◌, ◌≢◌, ℕ, ◌*◌, ◌/◌, nat_eq, List, length, take, drop, if◌then◌else◌}
use Rattle.des_mac.specs.IsProgress.{IsProgressOf}
use Rattle.des_context.specs.declared.macs.MessageState.{MessageState}
use Rattle.des_context.specs.Contexts.{HasSomeCipherType, HasMark, IsContextOf}
use Rattle.des_context.specs.CipherTypes.{encryption_of}
use Rattle.des_context.specs.MacAlgorithms.{IsAlgorithm}

-- the words of the cipher that goes by CBC, and its key: those of the first key, if algorithm 3 has two
abbrev pub words_of_cbc : ℕ → List ℕ → List ℕ
words_of_cbc algorithm words = if nat_eq algorithm 3 then take 17 words else words

abbrev pub key_of_cbc : ℕ → List ℕ → List ℕ
key_of_cbc algorithm key = if nat_eq algorithm 3 then take 8 key else key

-- there are as many words as of a MAC by the algorithm: of one context, or of two of DES
abbrev pub HasMacCipherType : ℕ → List ℕ → Type 0
HasMacCipherType algorithm words = (algorithm ≢ 3 → HasSomeCipherType words) × (algorithm ≡ 3 → length words ≡ 34)

-- how many bytes the key of these words has
abbrev pub key_size_of : List ℕ → ℕ
key_size_of words = length words / 16 * 8

-- the words are those of the key: its context, or of algorithm 3 the contexts of two keys of DES, one after the other
pub record AreMacWordsOf (algorithm : ℕ) (words key : List ℕ) : Type 0 where
  pub by : IsAlgorithm algorithm
  pub cbc : IsContextOf (words_of_cbc algorithm words) (key_of_cbc algorithm key)
  pub second : algorithm ≡ 3 → (length key ≡ 16) × IsContextOf (drop 17 words) (drop 8 key)

-- the words are those of the key, and the message is the bytes m, to be padded by the method
pub record IsMacOf (algorithm : ℕ) (words : List ℕ) (message : MessageState) (padding : ℕ) (key m : List ℕ)
    : Type 0 where
  pub made : AreMacWordsOf algorithm words key
  pub padded_by : message.padding ≡ padding
  pub progress : IsProgressOf (encryption_of (key_of_cbc algorithm key)) message.progress m

-- the words are those of some key, and the message is some bytes, to be padded by some method
abbrev pub IsAMac : ℕ → List ℕ → MessageState → Type 0
IsAMac algorithm words message =
    (padding : ℕ) × ((key : List ℕ) × ((m : List ℕ) × IsMacOf algorithm words message padding key m))

-- the words of that cipher end with a mark of the algorithm
abbrev pub HasMacMark : ℕ → List ℕ → Type 0
HasMacMark algorithm words = HasMark algorithm (words_of_cbc algorithm words)

-- words with a mark of the algorithm are those of some key and some message; of others nothing is said
abbrev pub IsSoundMacIfMarked : ℕ → List ℕ → MessageState → Type 0
IsSoundMacIfMarked algorithm words message = HasMacMark algorithm words → IsAMac algorithm words message
