-- The bytes of digits in a stream are those of the digits of the whole text.
use Rattle.std.proofs.Common.{◌≡◌, ◌∙◌, ℕ, ◌+◌, ◌*◌, ◌%◌, ◌<◌, ◌==◌, List, [], ◌∷◌, Bool, true, false, not, ◌&&◌, if◌then◌else◌, length, Option, Some, None, option_map, is_some, Result, Ok, Err, refl, sym, ap, arith, eqb-true, mod-eq_of_lt}
use Rattle.std.proofs.KnownBytes.{prepend_known-nil}
use Rattle.std.specs.Result.{result_ok}
use Rattle.std.specs.Io.KnownBytes.{prepend_known}
use Rattle.hex.specs.Hex.{decode_of, decode_pairs, hex_digit_value, pair_value, ◌>>=◌}
use Rattle.hex.specs.declared.error.FromHexError.{FromHexError}
use Rattle.hex.proofs.HexLemmas.{decode_pairs-ok}
use Rattle.des_passwords.specs.Decoding.{after_all, given_by, in_front}
use Rattle.des_passwords.specs.HexStreams.{after, after_digit, are_apart, byte_of, bytes_from, bytes_of, is_space, line_after, written_in}
use Rattle.des_passwords.specs.declared.hex_reader.Position.{Position}
use Rattle.des_passwords.proofs.StreamedDigits.{from_both}

-- ---- the bytes of digits alone

abbrev with_digit : (value first : Option ℕ) → (Option ℕ → Option (List ℕ)) → Option (List ℕ)
with_digit None first more = None
with_digit (Some value) None more = more (Some value)
with_digit (Some value) (Some first) more = prepend_known ((first % 16 * 16 + value % 16) ∷ []) (more None)

unfoldable in_pairs : Option ℕ → List ℕ → Option (List ℕ)
in_pairs first [] = if not (is_some first) then Some [] else None
in_pairs first (digit ∷ rest) = with_digit (hex_digit_value digit) first (λ next. in_pairs next rest)

-- ---- a character more

abbrev at : ℕ → Option ℕ → Position
at line first = record { line = line; first = first; is_apart = false; fault = None }

-- after white space inside a byte
abbrev torn : (line first : ℕ) → Position
torn line first = record { line = line; first = Some first; is_apart = true; fault = None }

one_more : (position : Position) (character : ℕ) (rest : List ℕ) → bytes_from position (character ∷ rest)
    ≡ prepend_known (in_front (byte_of position character) []) (bytes_from (after position character) rest)
unfolding after_all given_by
one_more position character rest = from_both position (after position character) (character ∷ []) rest refl

-- nothing is read after a fault
stuck : (position : Position) (line : ℕ) (text : List ℕ) → position.fault ≡ Some line → bytes_from position text ≡ None
unfolding after after_all given_by
stuck position line [] is = rw is refl
stuck position line (character ∷ rest) is =
    one_more position character rest ∙ ap (prepend_known _) (stuck (after position character) line rest (rw is refl))

torn_more : (line first character : ℕ) (rest : List ℕ) (space : Bool) → is_space character ≡ space
    → ((l : ℕ) → bytes_from (torn l first) rest ≡ None) → bytes_from (torn line first) (character ∷ rest) ≡ None
unfolding after byte_of
torn_more line first character rest true is more =
    one_more (torn line first) character rest ∙ rw is (ap (prepend_known []) (more (line_after line character)))
torn_more line first character rest false is more =
    one_more (torn line first) character rest
    ∙ rw is (ap (prepend_known []) (stuck (after_digit (torn line first) None) line rest refl))

-- a byte that is torn is none
torn_ends : (line first : ℕ) (text : List ℕ) → bytes_from (torn line first) text ≡ None
unfolding after_all given_by
torn_ends line first [] = refl
torn_ends line first (character ∷ rest) =
    torn_more line first character rest (is_space character) refl (λ l. torn_ends l first rest)

-- the bytes of digits, if white space stands between bytes alone
abbrev if_apart : Bool → Option (List ℕ) → Option (List ℕ)
if_apart apart bytes = if apart then bytes else None

abbrev in_text : Option ℕ → List ℕ → Option (List ℕ)
in_text first text = if_apart (are_apart (is_some first) text) (in_pairs first (written_in text))

after_space : (first : Option ℕ) (character : ℕ) (rest : List ℕ) → is_space character ≡ true
    → in_text first (character ∷ rest)
    ≡ if_apart (not (is_some first) && are_apart (is_some first) rest) (in_pairs first (written_in rest))
unfolding are_apart
after_space first character rest is = rw is refl

space_more : (line : ℕ) (first : Option ℕ) (character : ℕ) (rest : List ℕ) → is_space character ≡ true
    → bytes_from (at (line_after line character) None) rest ≡ in_text None rest
    → bytes_from (at line first) (character ∷ rest) ≡ in_text first (character ∷ rest)
unfolding after byte_of
space_more line None character rest is more =
    let none : hex_digit_value character ≡ None = grind (arith, is) in
    one_more (at line None) character rest ∙ rw (is, none) (prepend_known-nil _ ∙ more)
    ∙ sym (after_space None character rest is)
space_more line (Some first) character rest is more =
    let none : hex_digit_value character ≡ None = grind (arith, is) in
    one_more (at line (Some first)) character rest
    ∙ rw (is, none) (ap (prepend_known []) (torn_ends (line_after line character) first rest))
    ∙ sym (after_space (Some first) character rest is)

fails_apart : (apart : Bool) → None ≡ if_apart apart None
fails_apart true = refl
fails_apart false = refl

prepended_apart : (byte : ℕ) (apart : Bool) (bytes : Option (List ℕ))
    → prepend_known (byte ∷ []) (if_apart apart bytes) ≡ if_apart apart (prepend_known (byte ∷ []) bytes)
prepended_apart byte true bytes = refl
prepended_apart byte false bytes = refl

digit_more : (line : ℕ) (first value : Option ℕ) (character : ℕ) (rest : List ℕ) → is_space character ≡ false
    → hex_digit_value character ≡ value
    → ((l : ℕ) (f : Option ℕ) → bytes_from (at l f) rest ≡ in_text f rest)
    → bytes_from (at line first) (character ∷ rest)
    ≡ if_apart (are_apart (not (is_some first)) rest) (with_digit value first (λ next. in_pairs next (written_in rest)))
unfolding after byte_of
digit_more line first None character rest is none more =
    one_more (at line first) character rest
    ∙ rw (is, none) (ap (prepend_known []) (stuck (after_digit (at line first) None) line rest refl))
    ∙ fails_apart (are_apart (not (is_some first)) rest)
digit_more line None (Some value) character rest is some more =
    one_more (at line None) character rest ∙ rw (is, some) (prepend_known-nil _ ∙ more line (Some value))
digit_more line (Some first) (Some value) character rest is some more =
    one_more (at line (Some first)) character rest
    ∙ rw (is, some) (ap (prepend_known ((first % 16 * 16 + value % 16) ∷ [])) (more line None)
    ∙ prepended_apart _ (are_apart false rest) (in_pairs None (written_in rest)))

character_more : (line : ℕ) (first : Option ℕ) (character : ℕ) (rest : List ℕ) (space : Bool) → is_space character ≡ space
    → ((l : ℕ) (f : Option ℕ) → bytes_from (at l f) rest ≡ in_text f rest)
    → bytes_from (at line first) (character ∷ rest) ≡ in_text first (character ∷ rest)
unfolding in_pairs are_apart
character_more line first character rest true is more =
    space_more line first character rest is (more (line_after line character) None)
character_more line first character rest false is more =
    digit_more line first (hex_digit_value character) character rest is refl more ∙ rw is refl

from_digits : (line : ℕ) (first : Option ℕ) (text : List ℕ) → bytes_from (at line first) text ≡ in_text first text
unfolding after_all given_by in_pairs are_apart
from_digits line first [] = refl
from_digits line first (character ∷ rest) =
    character_more line first character rest (is_space character) refl (λ l f. from_digits l f rest)

-- ---- decoding

digit_small : (digit value : ℕ) → hex_digit_value digit ≡ Some value → value % 16 ≡ value
digit_small digit value is =
    let small : value < 16 = grind (arith, is) in
    mod-eq_of_lt small

pair_decoded : (i high low : ℕ) (h l : Option ℕ) (rest : Result (List ℕ) FromHexError) (more : Option ℕ → Option (List ℕ))
    → hex_digit_value high ≡ h → hex_digit_value low ≡ l → result_ok rest ≡ more None
    → result_ok (pair_value high low i >>= (λ byte. rest >>= (λ bytes. Ok (byte ∷ bytes))))
    ≡ with_digit h None (λ next. with_digit l next more)
pair_decoded i high low None l rest more hi lo is = rw hi refl
pair_decoded i high low (Some h) None rest more hi lo is = rw (hi, lo) refl
pair_decoded i high low (Some h) (Some l) (Ok bytes) more hi lo is =
    rw (hi, lo, digit_small high h hi, digit_small low l lo, ← is) refl
pair_decoded i high low (Some h) (Some l) (Err error) more hi lo is = rw (hi, lo, ← is) refl

alone : (value : Option ℕ) → None ≡ with_digit value None (λ next. if not (is_some next) then Some [] else None)
alone None = refl
alone (Some value) = refl

pairs_decoded : (i : ℕ) (digits : List ℕ) → result_ok (decode_pairs i digits) ≡ in_pairs None digits
unfolding decode_pairs in_pairs
pairs_decoded i [] = refl
pairs_decoded i (digit ∷ []) = alone (hex_digit_value digit)
pairs_decoded i (high ∷ low ∷ rest) =
    pair_decoded i high low (hex_digit_value high) (hex_digit_value low) (decode_pairs (i + 2) rest)
    (λ next. in_pairs next rest) refl refl (pairs_decoded (i + 2) rest)

even_decoded : (digits : List ℕ) (pairs : Result (List ℕ) FromHexError) → decode_pairs 0 digits ≡ pairs
    → (odd : Bool) → (length digits % 2 == 1) ≡ odd → result_ok (decode_of digits) ≡ result_ok (decode_pairs 0 digits)
even_decoded digits pairs is false odd = rw odd refl
even_decoded digits (Err error) is true odd = rw (odd, is) refl
even_decoded digits (Ok bytes) is true odd =
    absurd (omega (arith, (decode_pairs-ok 0 digits bytes is).1, eqb-true (length digits % 2) 1 odd))

-- what is to come of a text that nothing was read of
pub from_beginning : (known : Option (List ℕ)) → option_map (bytes_from (at 1 None)) known ≡ option_map bytes_of known
from_beginning None = refl
from_beginning (Some text) =
    let digits = written_in text in
    ap (λ (o : Option (List ℕ)). Some o) (from_digits 1 None text
    ∙ ap (if_apart (are_apart false text))
    (sym (even_decoded digits (decode_pairs 0 digits) refl (length digits % 2 == 1) refl ∙ pairs_decoded 0 digits)))
