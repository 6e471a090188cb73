-- Notices: what is told of a stream that goes on, and what follows from a key's verdict.
use Rattle.std.specs.Prelude.{◌≡◌, ◌⊎◌, ℕ, ◌+◌, ◌/◌, ◌^◌, ◌<◌, ◌≤◌, Bool, true, List, [], codes, Option, Some, None, Result, Ok, Err}
use Rattle.std.specs.Int.{div_ceil}
use Rattle.des_io.specs.declared.padding.Padding.{Padding}
use Rattle.des_io.specs.declared.padding.Padding.TheVariants.{Unpadded, Zeros}
use Rattle.des_lines.specs.declared.fault.FaultKind.{FaultKind}
use Rattle.des_lines.specs.declared.fault.FaultKind.TheVariants.{WeakKey as RefusedKey}
use Rattle.des_lines.specs.declared.keys.Verdict.{Verdict}
use Rattle.des_lines.specs.declared.keys.Verdict.TheVariants.{DoubleLength as TwoParts, Weak}
use Rattle.des_commands.specs.declared.outputs.notices.Notice.{Notice}
use Rattle.des_commands.specs.declared.outputs.notices.Notice.TheVariants.{Hexadecimal, Base64, WeakKey, DoubleLength, Limit, Permissions}
use Rattle.des_requests.specs.declared.streams.WeakKeys.{WeakKeys}
use Rattle.des_requests.specs.declared.streams.WeakKeys.TheVariants.{Refuse, Warn}
use Rattle.des_lines.specs.Faults.{line_with}
use Rattle.des_lines.specs.Keys.{IsVerdict}
use Rattle.des_lines.specs.Written.{AppendsPrefix}

-- ---- lines

-- the line of a notice has the form of a fault's
abbrev pub notice_line : Notice → List ℕ → List ℕ
notice_line Hexadecimal about =
    line_with (codes "Hexadecimal") about
    (codes "the input is hexadecimal digits, which --hex decodes")
notice_line Base64 about =
    line_with (codes "Base64") about
    (codes "the input is a text in Base64, and was taken as it is: --base64 decodes it")
notice_line WeakKey about = line_with (codes "WeakKey") about (codes "the key is weak, and is used")
notice_line DoubleLength about =
    line_with (codes "DoubleLength") about
    (codes "the first and third parts of the key are one: this is des-ede with the first two")
notice_line Limit about =
    line_with (codes "Limit") about
    (codes "more than 2^20 blocks (8 MiB, of CFB-8 1 MiB) are encrypted under one key (NIST SP 800-67)")
notice_line Permissions about =
    line_with (codes "Permissions") about
    (codes "the new file is yours alone: others had rights to the old one")

-- ---- keys

-- what follows from the word of `--weak-keys`, from whether the stream encrypts, and from the
-- verdict: a weak key is refused, told of, or used in silence. A key of two parts in the form of
-- three is told of to encrypt, unless the word is `accept`
abbrev pub ruling_of : WeakKeys → Bool → Verdict → Result (Option Notice) FaultKind
ruling_of Refuse encrypts Weak = Err RefusedKey
ruling_of Warn encrypts Weak = Ok (Some WeakKey)
ruling_of Refuse true TwoParts = Ok (Some DoubleLength)
ruling_of Warn true TwoParts = Ok (Some DoubleLength)
ruling_of weak_keys encrypts verdict = Ok None

-- what a ruling gives, and what was written: a line, or a prefix of it, if there is a notice
abbrev pub IsRuledBy : Result (Option Notice) FaultKind → List ℕ → Result (Unit {0}) FaultKind
    → Option (List ℕ) → Option (List ℕ) → Type 0
IsRuledBy (Err kind) about result old new = (result ≡ Err kind) × (new ≡ old)
IsRuledBy (Ok None) about result old new = (result ≡ Ok tt) × (new ≡ old)
IsRuledBy (Ok (Some notice)) about result old new =
    (result ≡ Ok tt) × AppendsPrefix old new (notice_line notice about)

-- the ruling is that of the key's verdict
abbrev pub IsAccepted : WeakKeys → Bool → List ℕ → List ℕ → Result (Unit {0}) FaultKind
    → Option (List ℕ) → Option (List ℕ) → Type 0
IsAccepted weak_keys encrypts key about result old new =
    (verdict : Verdict) × IsVerdict verdict key
    × IsRuledBy (ruling_of weak_keys encrypts verdict) about result old new

-- ---- the limit

-- the whole blocks that a number of bytes is with its padding
abbrev pub blocks_of : Padding → ℕ → ℕ
blocks_of Unpadded bytes = bytes / 8
blocks_of Zeros bytes = div_ceil bytes 8
blocks_of padding bytes = bytes / 8 + 1

-- the limit is reported once this number of bytes passes it, and then no more; what is left to report, and
-- what was written: the line, or a prefix of it
abbrev pub TellsLimit : Option Padding → ℕ → Option Padding → Option (List ℕ) → Option (List ℕ) → Type 0
TellsLimit None bytes rest old new = (rest ≡ None) × (new ≡ old)
TellsLimit (Some padding) bytes rest old new =
    ((2 ^ 20 < blocks_of padding bytes) × (rest ≡ None) × AppendsPrefix old new (notice_line Limit []))
    ⊎ ((blocks_of padding bytes ≤ 2 ^ 20) × (rest ≡ Some padding) × (new ≡ old))
