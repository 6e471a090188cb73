-- The lines of a text, what stands before and after a byte of it, and a text without its blanks.
use Rattle.std.specs.Prelude.{◌≡◌, ℕ, ◌-◌, ◌<◌, Bool, List, ◌∷◌, ◌++◌, length, take, drop, ◌==◌}
use Rattle.std.specs.Char.{is_ascii_whitespace}
use Rattle.std.specs.List.{before_first, after_first, list_all, prefix_len, suffix_len}
use Rattle.std.specs.Str.{bytes_eq}
use Rattle.std.specs.Str.Lines.{lines}

-- a line ends with LF or CRLF, which are no part of it; the last one may have no end
unfoldable pub lines_of : List ℕ → List (List ℕ)
lines_of text = lines text

-- what stands before the first such byte, all if there is none
abbrev pub before : ℕ → List ℕ → List ℕ
before byte text = before_first (λ b. b == byte) text

-- what stands after it, nothing if there is none
abbrev pub after : ℕ → List ℕ → List ℕ
after byte text = after_first (λ b. b == byte) text

-- a text without the blanks at its ends
abbrev pub without_blanks_before : List ℕ → List ℕ
without_blanks_before text = drop (prefix_len is_ascii_whitespace text) text

abbrev pub without_blanks_after : List ℕ → List ℕ
without_blanks_after text = take (length text - suffix_len is_ascii_whitespace text) text

unfoldable pub trimmed : List ℕ → List ℕ
trimmed text = without_blanks_after (without_blanks_before text)

-- a line is this text, blanks at its end apart
abbrev pub is_line : List ℕ → List ℕ → Bool
is_line line wanted = bytes_eq (without_blanks_after line) wanted

-- a text is blanks alone
abbrev pub are_blanks : List ℕ → Bool
are_blanks text = list_all is_ascii_whitespace text

-- a text is a line, with its end, and the rest: whatever follows the line begins a line of its own
abbrev pub IsLineBefore : List ℕ → List ℕ → List ℕ → Type 0
IsLineBefore text line rest =
    (front : List ℕ) × (text ≡ front ++ rest)
    × (0 < length rest → (x : List ℕ) → lines_of (front ++ x) ≡ line ∷ lines_of x)
