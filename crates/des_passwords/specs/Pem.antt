-- Encrypted private keys in PEM: PKCS #8 (RFC 7468, sections 2, 3 and 11), and what OpenSSL calls traditional, with
-- the headers of RFC 1421, sections 4.6.1.1 and 4.6.1.3. A text is read line by line, with the first fault that is met.
use Rattle.std.specs.Prelude.{ℕ, ◌+◌, Bool, List, [], ◌∷◌, ◌++◌, length, take, drop, codes, Option, Some, None, nat_eq, ok_or, unwrap_or, Result, Ok, Err, if◌then◌else◌}
use Rattle.std.specs.List.{starts_with}
use Rattle.std.specs.Option.{option_map, option_eq}
use Rattle.std.specs.Str.{bytes_eq, str_eq_ignore_ascii_case}
use Rattle.hex.specs.Hex.{decode_sized}
use Rattle.hex.specs.declared.error.FromHexError.{FromHexError}
use Rattle.des_passwords.specs.Base64Lines.{bytes_in}
use Rattle.des_passwords.specs.PemFaults.{Fault, Begin, End, NotEncrypted, NoDekInfo, Cipher, Vector, EmptyLine, Base64}
use Rattle.des_passwords.specs.TextLines.{lines_of, is_line, before, after, trimmed}
use Rattle.des_passwords.specs.declared.base64_lines.Base64Error.{Base64Error}
use Rattle.des_passwords.specs.declared.base64_lines.Base64Error.TheVariants.{Line, OutOfMemory}
use Rattle.des_passwords.specs.declared.encrypted_keys.Scheme.{Scheme}
use Rattle.des_passwords.specs.declared.encrypted_keys.Scheme.TheVariants.{DekInfoDes, DekInfoTripleDes}
use Rattle.des_passwords.specs.declared.pem.DekInfo.{DekInfo}
use Rattle.des_passwords.specs.declared.pem.Label.{Label}
use Rattle.des_passwords.specs.declared.pem.Label.TheVariants.{Encrypted, Rsa, Dsa, Ec}
use Rattle.des_passwords.specs.declared.pem.PemCipher.{PemCipher}
use Rattle.des_passwords.specs.declared.pem.PemCipher.TheVariants.{Des, TripleDes}
use Rattle.des_passwords.specs.declared.pem.PemError.{PemError}
use Rattle.des_passwords.specs.declared.pem.PemError.TheVariants as errors
use Rattle.des_passwords.specs.declared.pem.PemKey.{PemKey}
use Rattle.des_passwords.specs.declared.pem.Start.{Start as StartOf}

infixl 10 ◌>>=◌
abbrev pub ◌>>=◌ : {A B : Type 0} → Result A Fault → (A → Result B Fault) → Result B Fault
(Ok x) >>= f = f x
(Err e) >>= f = Err e

-- the label, its first line and its last line (RFC 7468, section 2)
abbrev pub name : Label → List ℕ
name Encrypted = codes "ENCRYPTED PRIVATE KEY"
name Rsa = codes "RSA PRIVATE KEY"
name Dsa = codes "DSA PRIVATE KEY"
name Ec = codes "EC PRIVATE KEY"

unfoldable pub begin_line : Label → List ℕ
begin_line label = codes "-----BEGIN " ++ name label ++ codes "-----"

unfoldable pub end_line : Label → List ℕ
end_line label = codes "-----END " ++ name label ++ codes "-----"

-- the label that a line begins; as in all lines, blanks may end it (section 3)
unfoldable pub label_of : List ℕ → Option Label
label_of line =
    if is_line line (begin_line Encrypted) then Some Encrypted
    else if is_line line (begin_line Rsa) then Some Rsa
    else if is_line line (begin_line Dsa) then Some Dsa
    else if is_line line (begin_line Ec) then Some Ec
    else None

-- where a key begins: its label, the number of the line after its first line, and the lines from there on
pub record Start : Type 0 where
  pub label : Label
  pub number : ℕ
  pub rest : List (List ℕ)

-- what stands before the first line is passed over; the first of these lines is line n
unfoldable pub start_of : ℕ → List (List ℕ) → Result Start Fault
start_of n [] = Err Begin
start_of n (line ∷ rest) =
    elim (label_of line) [
      | Some label ↦ Ok (record { label = label; number = n + 1; rest = rest })
      | None ↦ start_of (n + 1) rest
    ]

-- the first characters, if a text begins with these, are left out
unfoldable pub after_prefix : List ℕ → List ℕ → Option (List ℕ)
after_prefix prefix text =
    if bytes_eq (take (length prefix) text) prefix then Some (drop (length prefix) text) else None

-- the lines before the last line, which is the first that begins with five hyphens, and has the same label
abbrev pub is_boundary : List ℕ → Bool
is_boundary line = starts_with nat_eq line (codes "-----")

unfoldable pub body_of : List ℕ → List (List ℕ) → Result (List (List ℕ)) Fault
body_of last [] = Err End
body_of last (line ∷ rest) =
    if is_boundary line then (if is_line line last then Ok [] else Err End)
    else do
      body ← body_of last rest
      Ok (line ∷ body)

-- what follows a line, if it is the first
unfoldable pub after_line : List ℕ → List (List ℕ) → Option (List (List ℕ))
after_line wanted [] = None
after_line wanted (line ∷ rest) = if is_line line wanted then Some rest else None

-- the cipher by its name, in large letters or small (as OpenSSL names them; RFC 1423, section 1.1, has DES-CBC)
unfoldable pub cipher_of : List ℕ → Result PemCipher Fault
cipher_of name =
    if str_eq_ignore_ascii_case name (codes "DES-EDE3-CBC") then Ok TripleDes
    else if str_eq_ignore_ascii_case name (codes "DES-CBC") then Ok Des
    else Err (Cipher name)

-- the vector: sixteen hexadecimal digits
abbrev pub vector_from : Result (List ℕ) FromHexError → Result (List ℕ) Fault
vector_from (Ok vector) = Ok vector
vector_from (Err e) = Err Vector

unfoldable pub vector_of : List ℕ → Result (List ℕ) Fault
vector_of digits = vector_from (decode_sized digits 8)

-- the value of a header, without the blanks around it
abbrev pub value_of : List ℕ → List ℕ → Option (List ℕ)
value_of name line = option_map trimmed (after_prefix name line)

-- `DEK-Info:`, a cipher, a comma and a vector (RFC 1421, section 4.6.1.3; RFC 1423, section 1.1)
unfoldable pub dek_info_of : List ℕ → Result DekInfo Fault
dek_info_of line = do
  value ← ok_or (value_of (codes "DEK-Info:") line) NoDekInfo
  cipher ← cipher_of (before 44 value)
  vector ← vector_of (after 44 value)
  Ok (record { cipher = cipher; vector = vector })

unfoldable pub dek_info_at : List (List ℕ) → Result (DekInfo × List (List ℕ)) Fault
dek_info_at [] = Err NoDekInfo
dek_info_at (line ∷ rest) = do
  info ← dek_info_of line
  Ok (info, rest)

-- the header of a key that is encrypted
abbrev pub is_encrypted : List ℕ → Bool
is_encrypted line = option_eq bytes_eq (value_of (codes "Proc-Type:") line) (Some (codes "4,ENCRYPTED"))

-- what follows it, if it is the first line
unfoldable pub after_proc_type : List (List ℕ) → Option (List (List ℕ))
after_proc_type [] = None
after_proc_type (line ∷ rest) = if is_encrypted line then Some rest else None

-- the three lines of the headers, and what follows them
unfoldable pub headers_of : List (List ℕ) → Result (DekInfo × List (List ℕ)) Fault
headers_of lines = do
  rest ← ok_or (after_proc_type lines) NotEncrypted
  info ← dek_info_at rest
  body ← ok_or (after_line [] info.1) EmptyLine
  Ok (info.0, body)

-- Base64 in lines, of which the first is line n
abbrev pub in_line : Result (List ℕ) ℕ → Result (List ℕ) Fault
in_line (Ok bytes) = Ok bytes
in_line (Err line) = Err (Base64 line)

unfoldable pub bytes_of : ℕ → List (List ℕ) → Result (List ℕ) Fault
bytes_of n lines = in_line (bytes_in n lines)

-- what a file holds: PKCS #8 has no headers, and the others have all three lines of them
pub record Key : Type 0 where
  pub label : Label
  pub dek_info : Option DekInfo
  pub bytes : List ℕ

unfoldable pub pkcs8_of : ℕ → List (List ℕ) → Result Key Fault
pkcs8_of n body = do
  bytes ← bytes_of n body
  Ok (record { label = Encrypted; dek_info = None; bytes = bytes })

unfoldable pub traditional_of : Label → ℕ → List (List ℕ) → Result Key Fault
traditional_of label n body = do
  headers ← headers_of body
  bytes ← bytes_of (n + 3) headers.1
  Ok (record { label = label; dek_info = Some headers.0; bytes = bytes })

unfoldable pub contents_of : Label → ℕ → List (List ℕ) → Result Key Fault
contents_of Encrypted n body = pkcs8_of n body
contents_of Rsa n body = traditional_of Rsa n body
contents_of Dsa n body = traditional_of Dsa n body
contents_of Ec n body = traditional_of Ec n body

-- a text without the byte order mark of UTF-8 before it
abbrev pub unmarked : List ℕ → List ℕ
unmarked text = unwrap_or (after_prefix (0xEF ∷ 0xBB ∷ 0xBF ∷ []) text) text

-- the first key of a text
unfoldable pub pem_of : List ℕ → Result Key Fault
pem_of text = do
  start ← start_of 1 (lines_of (unmarked text))
  body ← body_of (end_line start.label) start.rest
  contents_of start.label start.number body

-- ---- what the functions return, without where it lies in memory

abbrev pub start_view : StartOf → Start
start_view s = record { label = s.label; number = s.number; rest = lines_of s.rest.now }

abbrev pub key_view : PemKey → Key
key_view key = record { label = key.label; dek_info = key.dek_info; bytes = key.bytes.items }

-- the error of Base64 as one of PEM
abbrev pub of_lines : Base64Error → PemError
of_lines (Line n) = errors.Base64 n
of_lines OutOfMemory = errors.OutOfMemory

-- the cipher with how its key is derived
abbrev pub scheme_of : PemCipher → Scheme
scheme_of Des = DekInfoDes
scheme_of TripleDes = DekInfoTripleDes
