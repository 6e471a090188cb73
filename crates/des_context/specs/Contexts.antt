-- A context, as words: sixteen for each part of its key, which hold the round keys of the part, and
-- one more, the mark of the init that made them.
use Rattle.std.specs.Prelude.{◌≡◌, ◌⊎◌, ℕ, ◌+◌, ◌*◌, ◌-◌, ◌/◌, ◌≤◌, List, length, slice_index_or, Bool, true, false, if◌then◌else◌}
use Rattle.des.specs.Blocks.{IsKey, part}
use Rattle.des_fast.specs.KeptRoundKeys.{AreRoundKeysOf, words_of_part}
use Rattle.des_context.specs.declared.ciphers.CipherType.{CipherType}
use Rattle.des_context.specs.declared.ciphers.TheConstants.{MARK, NO_MAC}
use Rattle.des_context.specs.CipherTypes.{parts_of, cipher_type_of_length}

-- there are as many words as in a context of this type of cipher
abbrev pub HasCipherType : CipherType → List ℕ → Type 0
HasCipherType cipher_type words = length words ≡ 16 * parts_of cipher_type + 1

-- the words are the context of a key of the type
abbrev pub AreWordsOf : CipherType → List ℕ → List ℕ → Type 0
AreWordsOf cipher_type words key =
    IsKey (8 * parts_of cipher_type) key × HasCipherType cipher_type words
    × ((n : ℕ) → 1 ≤ n → n ≤ parts_of cipher_type → AreRoundKeysOf (words_of_part n words) (part n key))

-- the context is one of the key
abbrev pub IsContextOf : List ℕ → List ℕ → Type 0
IsContextOf context key = AreWordsOf (cipher_type_of_length (length key)) context key

-- the mark of a context, by the number of its words: it says the algorithm of a MAC, or that there is none, whether the calls are
-- to read no table, and the parts of the key; it is no secret
abbrev pub mark_of : ℕ → Bool → ℕ → ℕ
mark_of algorithm no_tables words = MARK + 0x10000 * algorithm + (if no_tables then 0x100 else 0) + words / 16

-- the last word is this mark
abbrev pub IsMarked : ℕ → Bool → List ℕ → Type 0
IsMarked algorithm no_tables context =
    slice_index_or context (length context - 1) 0 ≡ mark_of algorithm no_tables (length context)

-- the last word is a mark of the algorithm, without tables or with them
abbrev pub HasMark : ℕ → List ℕ → Type 0
HasMark algorithm context = IsMarked algorithm true context ⊎ IsMarked algorithm false context

-- words with the mark of a cipher are the context of some key; of others nothing is said
abbrev pub IsSoundIfMarked : List ℕ → Type 0
IsSoundIfMarked context = HasMark NO_MAC context → (key : List ℕ) × IsContextOf context key

-- there are as many words as in the context of a key of some type of cipher
abbrev pub HasSomeCipherType : List ℕ → Type 0
HasSomeCipherType words = (cipher_type : CipherType) × HasCipherType cipher_type words
