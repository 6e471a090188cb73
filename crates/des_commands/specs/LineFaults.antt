-- Why a line of `decrypt-lines` has no answer, and the line that tells of it.
use Rattle.std.specs.Prelude.{ℕ, List, ◌++◌, codes}
use Rattle.des_commands.specs.declared.lines.line_fault.LineFault.{LineFault}
use Rattle.des_commands.specs.declared.lines.line_fault.LineFault.TheVariants.{Digit, DigitCount, Base64, NotEncrypted, KeyNumber, Length, Salt, Padding, Unprintable}
use Rattle.std.specs.Fmt.{decimal}
use Rattle.des_lines.specs.Faults.{line_with}

abbrev pub name_of : LineFault → List ℕ
name_of Digit = codes "HexText"
name_of DigitCount = codes "HexLength"
name_of Base64 = codes "Base64"
name_of NotEncrypted = codes "NotEncrypted"
name_of KeyNumber = codes "KeyNumber"
name_of Length = codes "Length"
name_of Salt = codes "SaltCut"
name_of Padding = codes "Padding"
name_of Unprintable = codes "Unprintable"

abbrev pub sentence_of : LineFault → List ℕ
sentence_of Digit = codes "a character is not a hexadecimal digit"
sentence_of DigitCount = codes "the number of hexadecimal digits is odd"
sentence_of Base64 = codes "it is not Base64"
sentence_of NotEncrypted = codes "the value is not encrypted"
sentence_of KeyNumber = codes "the value names a key that is not given"
sentence_of Length = codes "the value ends within a block of 8 bytes"
sentence_of Salt = codes "the value ends within the salt"
sentence_of Padding = codes "wrong key, password, format or padding"
sentence_of Unprintable = codes "the text is not printable UTF-8 in one line: --hex writes digits"

-- nothing of the value stands in it
abbrev pub fault_line : LineFault → List ℕ → List ℕ
fault_line fault about = line_with (name_of fault) about (sentence_of fault)

-- what it is about: the input, and the number of the line
abbrev pub about_line : List ℕ → ℕ → List ℕ
about_line name line = name ++ (codes ": line " ++ decimal line)
