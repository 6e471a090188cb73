-- Words that hold the round keys of each part of a key, and any word after them, are its context.
use Rattle.std.proofs.Common.{◌≡◌, ℕ, ◌+◌, ◌*◌, ◌≤◌, List, length, slice_set, subst, sym, ◌∙◌, arith}
use Rattle.std.proofs.lemmas.List.{length-set, take-set-le}
use Rattle.des.specs.Blocks.{IsKey, part}
use Rattle.des_fast.specs.KeptRoundKeys.{AreRoundKeysOf, words_of_part}
use Rattle.des_context.specs.declared.ciphers.CipherType.{CipherType}
use Rattle.des_context.specs.CipherTypes.{parts_of}
use Rattle.des_context.specs.CipherTypeLaws.{cipher_type-of_key}
use Rattle.des_context.specs.Contexts.{AreWordsOf, IsContextOf}
use Rattle.des_context.proofs.PartWords.{words-kept}

pub IsContextOf-written : (cipher_type : CipherType) (words key : List ℕ) (word : ℕ) → IsKey (8 * parts_of cipher_type) key
    → length words ≡ 16 * parts_of cipher_type + 1
    → ((n : ℕ) → 1 ≤ n → 8 * n ≤ length key → AreRoundKeysOf (words_of_part n words) (part n key))
    → IsContextOf (slice_set words (2 * length key) word) key
IsContextOf-written cipher_type words key word is_key count made =
    let written : List ℕ = slice_set words (2 * length key) word in
    let holds : (n : ℕ) → 1 ≤ n → n ≤ parts_of cipher_type → AreRoundKeysOf (words_of_part n written) (part n key) =
    λ n from to.
    let before : 16 * n ≤ 2 * length key = omega (arith, to, is_key.0) in
    rw (words-kept n written words (take-set-le (16 * n) words (2 * length key) word before))
    (made n from (omega (arith, to, is_key.0))) in
    subst (λ cipher_type. AreWordsOf cipher_type written key) (sym (cipher_type-of_key cipher_type key is_key.0))
    (is_key, length-set words (2 * length key) word ∙ count, holds)
