-- The rounds of the cipher on words: the steps from a block to what the rounds make of it.
use Rattle.std.proofs.Common.{◌≡◌, ℕ, ◌-◌, List, [], ◌∷◌, ◌++◌, Bool, length, take, drop, reverse, ap, ap₂, sym, ◌∙◌, take_at, drop_at, length-drop}
use Rattle.std.proofs.lemmas.List.{map-append}
use Rattle.des.specs.Bits.{bits_of_word, select, xor_bits}
use Rattle.des.specs.Tables.{initial_permutation, final_permutation}
use Rattle.des.specs.CipherFunction.{cipher_function}
use Rattle.des.specs.Rounds.{after_rounds, swapped, through_rounds}
use Rattle.des.specs.RoundKeyWords.{round_keys_of}
use Rattle.des.specs.Laws.BitLists.{length-bits_of}
use Rattle.des.specs.Laws.RoundsUndone.{after_rounds-append}
use Rattle.des.proofs.ReversedLists.{map-reverse}

-- the two halves of a word
abbrev pub halves_of : ℕ → List Bool × List Bool
halves_of word = (take 32 (bits_of_word word), drop 32 (bits_of_word word))

-- what the rounds of the words' round keys make of two halves
abbrev pub halves_after : List ℕ → List Bool × List Bool → List Bool × List Bool
halves_after words halves = after_rounds (round_keys_of words) halves.0 halves.1

-- one round under the round key in a word makes one word of another
abbrev IsRound : ℕ → ℕ → ℕ → Type 0
IsRound word key next =
    let halves = halves_of word in
    bits_of_word next ≡ halves.1 ++ xor_bits halves.0 (cipher_function halves.1 (take 48 (bits_of_word key)))

-- the halves after one round
halves_of-round : (word key next : ℕ) → IsRound word key next
    → halves_of next ≡ halves_after (key ∷ []) (halves_of word)
unfolding after_rounds round_keys_of
halves_of-round word key next round =
    let left : List Bool = take 32 (bits_of_word word) in
    let right : List Bool = drop 32 (bits_of_word word) in
    let new : List Bool = xor_bits left (cipher_function right (take 48 (bits_of_word key))) in
    let width : length right ≡ 32 =
    length-drop 32 (bits_of_word word) ∙ ap (λ (n : ℕ). n - 32) (length-bits_of 64 word) in
    ap₂ (λ (l r : List Bool). (l, r))
    (ap (take 32) round ∙ take_at right new 32 width)
    (ap (drop 32) round ∙ drop_at right new 32 width)

-- the rounds of words, and then of more
halves_after-append : (words more : List ℕ) (halves : List Bool × List Bool)
    → halves_after (words ++ more) halves ≡ halves_after more (halves_after words halves)
unfolding round_keys_of
halves_after-append words more halves =
    ap (λ keys. after_rounds keys halves.0 halves.1) (map-append (λ word. take 48 (bits_of_word word)) words more)
    ∙ after_rounds-append (round_keys_of words) (round_keys_of more) halves.0 halves.1

-- the halves after the rounds of some words, and after one round more
pub halves_of-round_more : (words : List ℕ) (first word key next : ℕ)
    → halves_of word ≡ halves_after words (halves_of first)
    → IsRound word key next → halves_of next ≡ halves_after (words ++ key ∷ []) (halves_of first)
halves_of-round_more words first word key next so_far round =
    halves_of-round word key next round
    ∙ ap (halves_after (key ∷ [])) so_far
    ∙ sym (halves_after-append words (key ∷ []) (halves_of first))

-- from the halves of a block after the initial permutation, through the rounds of words, to the halves swapped and the
-- final permutation
pub through_rounds-halves : (words : List ℕ) (first last : ℕ) (block answer : List Bool)
    → bits_of_word first ≡ select initial_permutation block
    → halves_of last ≡ halves_after words (halves_of first)
    → answer ≡ select final_permutation (drop 32 (bits_of_word last) ++ take 32 (bits_of_word last))
    → answer ≡ through_rounds (round_keys_of words) block
unfolding through_rounds
through_rounds-halves words first last block answer begins rounds ends =
    ends
    ∙ ap (λ (h : List Bool × List Bool). select final_permutation (swapped h)) rounds
    ∙ ap (λ (bits : List Bool). select final_permutation (swapped (halves_after words (take 32 bits, drop 32 bits))))
    begins

-- the words from the last to the first hold the round keys from the last to the first
pub round_keys_of-reverse : (words : List ℕ) → round_keys_of (reverse words) ≡ reverse (round_keys_of words)
unfolding round_keys_of
round_keys_of-reverse words = map-reverse (λ w. take 48 (bits_of_word w)) words
