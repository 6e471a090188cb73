-- The number of the line with a character, line after line; and what decoding gives.
use Rattle.std.proofs.Common.{◌≡◌, ◌∙◌, ℕ, ◌+◌, ◌-◌, ◌<◌, ◌≤◌, List, ◌∷◌, [], length, Result, Ok, Err, refl, sym, ap}
use Rattle.std.proofs.lemmas.Bool.{lt-ltb, le-ltb}
use Rattle.base64.specs.Engines.{standard}
use Rattle.base64.specs.GeneralPurpose.{decode_of}
use Rattle.base64.specs.declared.decode.DecodeError.{DecodeError}
use Rattle.des_passwords.specs.Base64Lines.{bytes_in, characters_in, in_lines, line_at, place_of}
use Rattle.des_passwords.specs.TextLines.{trimmed}

-- ---- the line with a character

pub in_line : (n place : ℕ) (line : List ℕ) (lines rest : List (List ℕ)) → lines ≡ line ∷ rest
    → place < length (trimmed line) → line_at n place lines ≡ n
unfolding line_at
in_line n place line lines rest is within =
    ap (line_at n place) is ∙ rw (lt-ltb place (length (trimmed line)) within) refl

pub after_line : (n place : ℕ) (line : List ℕ) (lines rest : List (List ℕ)) → lines ≡ line ∷ rest
    → length (trimmed line) ≤ place → line_at n place lines ≡ line_at (n + 1) (place - length (trimmed line)) rest
unfolding line_at
after_line n place line lines rest is beyond =
    ap (line_at n place) is ∙ rw (le-ltb place (length (trimmed line)) beyond) refl

pub no_line : (n place : ℕ) (lines : List (List ℕ)) → lines ≡ [] → line_at n place lines ≡ n
unfolding line_at
no_line n place lines is = ap (line_at n place) is

-- ---- what decoding gives

abbrev at_fault : ℕ → Result (List ℕ) ℕ
at_fault line = Err line

abbrev outcome : ℕ → List (List ℕ) → List ℕ → Result (List ℕ) ℕ
outcome n lines characters = in_lines n lines (decode_of standard characters)

pub bytes_read : (n : ℕ) (lines : List (List ℕ)) (characters bytes : List ℕ) → characters ≡ characters_in lines
    → decode_of standard characters ≡ Ok bytes → bytes_in n lines ≡ Ok bytes
unfolding bytes_in
bytes_read n lines characters bytes is decoded =
    ap (outcome n lines) (sym is) ∙ ap (in_lines n lines) decoded

pub line_at_fault : (n : ℕ) (lines : List (List ℕ)) (characters : List ℕ) (error : DecodeError)
    → characters ≡ characters_in lines → decode_of standard characters ≡ Err error
    → bytes_in n lines ≡ Err (line_at n (place_of error (length characters)) lines)
unfolding bytes_in
line_at_fault n lines characters error is failed =
    ap (outcome n lines) (sym is)
    ∙ ap (in_lines n lines) failed
    ∙ ap (λ (l : List ℕ). at_fault (line_at n (place_of error (length l)) lines)) (sym is)
