-- The units of a password as a BMPString, one after another.
use Rattle.std.proofs.Common.{◌≡◌, refl, ap, sym, ◌∙◌, ℕ, suc, ◌≤◌, ◌<◌, List, [], ◌∷◌, ◌++◌, length, Option, append_assoc, arith, length-append}
use Rattle.std.proofs.lemmas.Bool.{lt-ltb}
use Rattle.std.proofs.lemmas.Str.{length-encode, chars-encodes}
use Rattle.std.specs.Char.{len_utf8}
use Rattle.std.specs.Char.Escape.{encode_utf16}
use Rattle.std.specs.List.{flat_map}
use Rattle.std.specs.Str.{IsUtf8, chars}
use lib.Utf8.{encode, encodes}
use Rattle.des_passwords.specs.BmpStrings.{second_of}
use Rattle.des_passwords.specs.Pkcs12.{copies, units_of}
use Rattle.des_passwords.proofs.DerElements.{IsBytes}
use Rattle.des_passwords.proofs.CopiedTexts.{copies-restart}

some_units : (characters : List ℕ) → 0 < length (units_of characters)
some_units characters = omega (arith, length-append (flat_map encode_utf16 characters) (0 ∷ []))

-- those of a character before the others
pub units-first : (character unit : ℕ) (second : Option ℕ) (others : List ℕ)
    → encode_utf16 character ≡ unit ∷ second_of second
    → units_of (character ∷ others) ≡ unit ∷ (second_of second ++ units_of others)
units-first character unit second others is =
    ap (λ (l : List ℕ). (l ++ flat_map encode_utf16 others) ++ 0 ∷ []) is
    ∙ ap (λ (l : List ℕ). unit ∷ l) (append_assoc (second_of second) (flat_map encode_utf16 others) (0 ∷ []))

-- a unit of a character, the zero at the end, and the second unit of a character
pub next_character : (text characters others : List ℕ) (character unit : ℕ) (second : Option ℕ) (n : ℕ)
    → characters ≡ character ∷ others → encode_utf16 character ≡ unit ∷ second_of second
    → copies text (units_of characters) (suc n) ≡ unit ∷ copies text (second_of second ++ units_of others) n
unfolding copies
next_character text characters others character unit second n parts is =
    ap (λ (l : List ℕ). copies text l (suc n)) (ap units_of parts ∙ units-first character unit second others is)

pub next_end : (all characters : List ℕ) (n : ℕ) → characters ≡ []
    → copies (units_of all) (units_of characters) (suc n) ≡ 0 ∷ copies (units_of all) (units_of all) n
unfolding copies
next_end all characters n none =
    ap (λ (l : List ℕ). copies (units_of all) (units_of l) (suc n)) none
    ∙ ap (λ (l : List ℕ). 0 ∷ l) (copies-restart (units_of all) n (some_units all))

pub next_second : (text left rest : List ℕ) (unit n : ℕ) → left ≡ unit ∷ rest
    → copies text left (suc n) ≡ unit ∷ copies text rest n
unfolding copies
next_second text left rest unit n is = ap (λ (l : List ℕ). copies text l (suc n)) is

-- ---- how many there are

-- no character has more units than bytes
fewer_units : (c : ℕ) → length (encode_utf16 c) ≤ len_utf8 c
fewer_units c = grind arith

fewer_in_all : (characters : List ℕ) → length (flat_map encode_utf16 characters) ≤ length (encodes characters)
fewer_in_all [] = omega arith
fewer_in_all (c ∷ characters) =
    omega (
      arith,
      length-append (encode_utf16 c) (flat_map encode_utf16 characters),
      length-append (encode c) (encodes characters),
      length-encode c,
      fewer_units c,
      fewer_in_all characters,
    )

pub fewer_of_text : (text : List ℕ) → IsUtf8 text → length (flat_map encode_utf16 (chars text)) ≤ length text
fewer_of_text text utf8 =
    let characters = utf8.0 in
    let spelled : chars text ≡ characters = ap chars (sym utf8.1.1) ∙ chars-encodes characters utf8.1.0 in
    omega (
      arith,
      ap (λ (l : List ℕ). length (flat_map encode_utf16 l)) spelled,
      ap length utf8.1.1,
      fewer_in_all characters,
    )

-- a byte has one
pub units_of_bytes : (bytes : List ℕ) → IsBytes bytes → length (flat_map encode_utf16 bytes) ≡ length bytes
units_of_bytes [] fits = refl
units_of_bytes (byte ∷ bytes) fits =
    let small : byte < 0x10000 = omega (arith, fits 0) in
    let one : length (encode_utf16 byte) ≡ 1 = rw (lt-ltb byte 0x10000 small) refl in
    omega (
      arith,
      one,
      length-append (encode_utf16 byte) (flat_map encode_utf16 bytes),
      units_of_bytes bytes (λ i. fits (suc i)),
    )

pub units_counted : (c count : ℕ) → (c < 0x10000 → count ≡ 1) → (0x10000 ≤ c → count ≡ 2)
    → count ≡ length (encode_utf16 c)
units_counted c count one two = grind arith
