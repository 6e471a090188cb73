-- What wrote the values of lines: which secrets that takes, and how the values stand in their lines.
use Rattle.std.specs.Prelude.{Bool, true, false}
use Rattle.des_lines.specs.declared.source.Source.{Source}
use Rattle.des_requests.specs.declared.lines.ValueFormat.{ValueFormat}
use Rattle.des_requests.specs.declared.lines.ValueFormat.TheVariants.{Jasypt}
use Rattle.des_requests.specs.declared.lines.LineSecret.{LineSecret}
use Rattle.des_requests.specs.declared.lines.LineSecret.TheVariants.{Password, Key}
use Rattle.des_requests.specs.declared.lines.LineCoding.{LineCoding}
use Rattle.des_requests.specs.declared.lines.LineCoding.TheVariants.{Hexadecimal, Base64, Bytes}

-- where the secret is
abbrev pub source_of : LineSecret → Source
source_of (Password source) = source
source_of (Key source) = source

-- Jasypt has passwords alone
abbrev pub takes_secret : ValueFormat → LineSecret → Bool
takes_secret (Jasypt by count) (Key source) = false
takes_secret format secret = true

-- how values stand in their lines: strings of Jasypt as they are
abbrev pub coding_of : ValueFormat → (is_base64 : Bool) → LineCoding
coding_of (Jasypt by count) is_base64 = Bytes
coding_of format true = Base64
coding_of format false = Hexadecimal
