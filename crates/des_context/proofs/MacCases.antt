-- The algorithms of MACs one by one: algorithm 3 has two contexts, the others one.
use Rattle.std.proofs.Common.{◌≡◌, ◌≢◌, ℕ, inl, inr, refl, List, ◌++◌, length, take, drop, subst, arith, take_at, drop_at, length-take-le, length-drop}
use Rattle.std.proofs.lemmas.Bool.{ne_eqb}
use Rattle.des.specs.Blocks.{IsKey}
use Rattle.des_mac.specs.IsProgress.{IsProgressOf}
use Rattle.des_context.specs.declared.macs.MessageState.{MessageState}
use Rattle.des_context.specs.declared.ciphers.CipherType.TheVariants.{Des}
use Rattle.des_context.specs.Contexts.{AreWordsOf, HasCipherType, IsContextOf}
use Rattle.des_context.specs.CipherTypes.{encryption_of, cipher_type_of_length}
use Rattle.des_context.specs.MacContexts.{AreMacWordsOf, IsMacOf}

-- but for algorithm 3 the words are the context of the key
pub one-key : (algorithm : ℕ) (words : List ℕ) (message : MessageState) (padding : ℕ) (key m : List ℕ) → algorithm ≢ 3
    → IsMacOf algorithm words message padding key m
    → IsContextOf words key × IsProgressOf (encryption_of key) message.progress m
one-key algorithm words message padding key m one is =
    let other = ne_eqb algorithm 3 one in (rw other at is.made.cbc, rw other at is.progress)

-- a key of 8 bytes has the words of a context of DES
pub single-words : (words key : List ℕ) → length key ≡ 8 → IsContextOf words key → IsKey 8 key × HasCipherType Des words
single-words words key count made =
    let of : AreWordsOf Des words key = subst (λ n. AreWordsOf (cipher_type_of_length n) words key) count made in (of.0, of.1)

-- of algorithm 3 the words are the contexts of two keys of DES, one after the other
pub two-contexts : (algorithm : ℕ) (words key : List ℕ) → algorithm ≡ 3 → AreMacWordsOf algorithm words key
    → (IsContextOf (take 17 words) (take 8 key) × IsKey 8 (take 8 key) × HasCipherType Des (take 17 words))
    × (IsContextOf (drop 17 words) (drop 8 key) × IsKey 8 (drop 8 key) × HasCipherType Des (drop 17 words))
two-contexts algorithm words key three made =
    let second = made.second three in
    let cbc = rw three at made.cbc in
    let first_is = single-words (take 17 words) (take 8 key) (length-take-le 8 key (omega (arith, second.0))) cbc in
    let second_is = single-words (drop 17 words) (drop 8 key) (omega (arith, length-drop 8 key, second.0)) second.1 in
    ((cbc, first_is.0, first_is.1), (second.1, second_is.0, second_is.1))

pub joined-contexts : (first second key : List ℕ) → length first ≡ 17 → length key ≡ 16 → IsContextOf first (take 8 key)
    → IsContextOf second (drop 8 key) → AreMacWordsOf 3 (first ++ second) key
joined-contexts first second key width size made second_made =
    record {
      by = inr (inl refl);
      cbc = rw (take_at first second 17 width) made;
      second = λ _. (size, rw (drop_at first second 17 width) second_made);
    }
