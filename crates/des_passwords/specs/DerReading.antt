-- Reading DER from left to right, with the first fault that is met (ITU-T X.690, sections 8.1, 8.3 and 10.1).
use Rattle.std.specs.Prelude.{◌≡◌, ℕ, ◌+◌, ◌*◌, ◌-◌, List, [], ◌∷◌, ◌++◌, length, take, drop, replicate, Result, Ok, Err, nat_lt, ◌==◌, if◌then◌else◌}
use Rattle.std.specs.Int.{w32, from_be_bytes}
use Rattle.des_passwords.specs.declared.key_file_error.KeyFileError.{KeyFileError}
use Rattle.des_passwords.specs.KeyFileFaults.{Fault, Structure, Iterations, fault_of}
use Rattle.des_passwords.specs.TextLines.{are_blanks}

infixl 10 ◌>>=◌
abbrev pub ◌>>=◌ : {A B : Type 0} → Result A Fault → (A → Result B Fault) → Result B Fault
(Ok x) >>= f = f x
(Err e) >>= f = Err e

-- what a function returned, seen by `view`, is what reading gives
abbrev pub Gives : {X Y : Type 0} → (X → Y) → Result X KeyFileError → Result Y Fault → Type 0
Gives view (Ok x) read = read ≡ Ok (view x)
Gives view (Err e) read = read ≡ Err (fault_of e)

-- the octets of a length, one or two, behind those that say how many (8.1.3.5), if no fewer would do (10.1)
unfoldable pub one_octet : List ℕ → Result (ℕ × List ℕ) Fault
one_octet [] = Err Structure
one_octet (n ∷ rest) = if nat_lt n 128 then Err Structure else Ok (n, rest)

unfoldable pub two_octets : List ℕ → Result (ℕ × List ℕ) Fault
two_octets [] = Err Structure
two_octets (high ∷ []) = Err Structure
two_octets (high ∷ low ∷ rest) = if high == 0 then Err Structure else Ok (high * 256 + low, rest)

-- a length below 2 ^ 16, and what follows it: below 128 in one octet (8.1.3.4)
unfoldable pub length_at : List ℕ → Result (ℕ × List ℕ) Fault
length_at [] = Err Structure
length_at (n ∷ rest) =
    if nat_lt n 128 then Ok (n, rest)
    else if n == 0x81 then one_octet rest
    else if n == 0x82 then two_octets rest
    else Err Structure

-- what follows the tag
unfoldable pub tag_at : ℕ → List ℕ → Result (List ℕ) Fault
tag_at tag [] = Err Structure
tag_at tag (t ∷ rest) = if t == tag then Ok rest else Err Structure

-- the contents of an element, and what follows it
unfoldable pub element_at : ℕ → List ℕ → Result (List ℕ × List ℕ) Fault
element_at tag bytes = do
  rest ← tag_at tag bytes
  n ← length_at rest
  if nat_lt (length n.1) n.0 then Err Structure else Ok (take n.0 n.1, drop n.0 n.1)

-- nothing follows
abbrev pub at_end : {A : Type 0} → List ℕ → A → Result A Fault
at_end rest x = if length rest == 0 then Ok x else Err Structure

-- the contents of an element that nothing follows
unfoldable pub last_element_at : ℕ → List ℕ → Result (List ℕ) Fault
last_element_at tag bytes = do
  element ← element_at tag bytes
  at_end element.1 element.0

-- blanks alone follow
abbrev pub at_blanks : {A : Type 0} → List ℕ → A → Result A Fault
at_blanks rest x = if are_blanks rest then Ok x else Err Structure

-- the contents of an element that blanks alone follow, as the line end that an editor puts after a file
unfoldable pub whole_element_at : ℕ → List ℕ → Result (List ℕ) Fault
whole_element_at tag bytes = do
  element ← element_at tag bytes
  at_blanks element.1 element.0

-- the digits to base 256 of a number from 0 up: the fewest octets of which the first bit is 0 (8.3.2)
unfoldable pub digits_of : List ℕ → Result (List ℕ) Fault
digits_of [] = Err Structure
digits_of (first ∷ []) = if nat_lt first 128 then Ok (first ∷ []) else Err Structure
digits_of (first ∷ second ∷ rest) =
    if first == 0 then if nat_lt second 128 then Err Structure else Ok (second ∷ rest)
    else if nat_lt first 128 then Ok (first ∷ second ∷ rest)
    else Err Structure

-- the number of four digits to base 256 at most
abbrev pub number_of : List ℕ → ℕ
number_of digits = from_be_bytes w32 (replicate (4 - length digits) 0 ++ digits)

-- a number of iterations, from 1 up to the most that are allowed, of its digits
unfoldable pub iterations_of : ℕ → List ℕ → Result ℕ Fault
iterations_of most digits =
    if nat_lt 4 (length digits) then Err Iterations
    else if number_of digits == 0 then Err Iterations
    else if nat_lt most (number_of digits) then Err Iterations
    else Ok (number_of digits)

-- an element that is a number of iterations, and what follows it
unfoldable pub iterations_at : ℕ → List ℕ → Result (ℕ × List ℕ) Fault
iterations_at most bytes = do
  element ← element_at 2 bytes
  digits ← digits_of element.0
  n ← iterations_of most digits
  Ok (n, element.1)
