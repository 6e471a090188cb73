-- What is done for a request of lines: its job, the rule by which values are opened, and the vector of its digits.
use Rattle.std.specs.Prelude.{◌≡◌, ◌⊎◌, ℕ, max, List, [], Err}
use Rattle.hex.specs.Hex.{decode_of}
use Rattle.hex.specs.declared.error.FromHexError.{FromHexError}
use Rattle.des_lines.specs.SourceNames.{name_of_source}
use Rattle.des_lines.specs.declared.fault.FaultKind.{FaultKind}
use Rattle.des_lines.specs.declared.fault.FaultKind.TheVariants.{KeyText, Memory}
use Rattle.des_columns.specs.Mysql.{key_of}
use Rattle.des_columns.specs.Jasypt.{Reads as ReadsJasypt}
use Rattle.des_columns.specs.KeyFile.{keys_in}
use Rattle.des_columns.specs.MysqlColumns.{Reads as ReadsMysql, ReadsByNumber}
use Rattle.des_columns.specs.PgcryptoColumns.{Reads as ReadsPgcrypto}
use Rattle.des_requests.specs.declared.lines.LineSecret.{LineSecret}
use Rattle.des_requests.specs.declared.lines.LineSecret.TheVariants.{Password, Key}
use Rattle.des_requests.specs.declared.lines.LinesRequest.{LinesRequest}
use Rattle.des_requests.specs.declared.lines.ValueFormat.{ValueFormat}
use Rattle.des_requests.specs.declared.lines.ValueFormat.TheVariants.{Mysql, Pgcrypto, Jasypt}
use Rattle.des_commands.specs.declared.lines.LinesJob.{LinesJob}
use Rattle.des_commands.specs.LineRuns.{Opening}

-- what a value is opened to under a secret, and a vector if the format takes one
abbrev pub opening_of : ValueFormat → LineSecret → (secret vector : List ℕ) → Opening
opening_of Mysql (Password source) secret vector = ReadsMysql (key_of secret)
opening_of Mysql (Key source) secret vector = ReadsByNumber (keys_in secret)
opening_of (Pgcrypto scheme digits) from secret vector = ReadsPgcrypto scheme secret vector
opening_of (Jasypt by count) from secret vector = ReadsJasypt by (max count 1) secret

-- the digits of the vector, which pgcrypto alone takes
abbrev pub vector_digits : ValueFormat → List ℕ
vector_digits (Pgcrypto scheme digits) = digits.now
vector_digits _ = []

-- digits are no bytes, or memory was refused
abbrev pub FailsAsDigits : List ℕ → FaultKind → Type 0
FailsAsDigits digits kind =
    (kind ≡ Memory) ⊎ ((kind ≡ KeyText) × ((error : FromHexError) × (decode_of digits ≡ Err error)))

-- what is done with the lines of a request
pub record IsJobOfLines (request : LinesRequest) (job : LinesJob) : Type 0 where
  pub coding : job.coding ≡ request.coding
  pub digits : job.writes_digits ≡ request.writes_digits
  pub keeps_going : job.keeps_going ≡ request.keeps_going
  pub name : job.name.now ≡ name_of_source request.input
