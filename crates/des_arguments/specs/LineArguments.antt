-- What the arguments of `decrypt-lines` ask for.
use Rattle.std.specs.Prelude.{◌≡◌, ◌≢◌, ◌⊎◌, ◌≤◌, ◌<◌, ℕ, false, true, [], codes, Option, Some, None, unwrap_or}
use Rattle.des_lines.specs.declared.fault.FaultKind.{FaultKind}
use Rattle.des_lines.specs.declared.fault.FaultKind.TheVariants.{Usage}
use Rattle.des_lines.specs.declared.fault.Misuse.TheVariants.{Arguments, ArgumentValue, PasswordSource, StandardInputTwice}
use Rattle.des_lines.specs.declared.source.Source.{Source}
use Rattle.des_columns.specs.Pbe.{algorithm_of}
use Rattle.des_columns.specs.declared.pbe.Algorithm.{Algorithm}
use Rattle.des_columns.specs.PgcryptoColumns.{scheme_of}
use Rattle.des_arguments.specs.declared.arguments.lines.LineArguments.{LineArguments}
use Rattle.des_requests.specs.declared.lines.LinesRequest.{LinesRequest}
use Rattle.des_requests.specs.declared.lines.ValueFormat.{ValueFormat}
use Rattle.des_requests.specs.declared.lines.ValueFormat.TheVariants.{Mysql, Pgcrypto, Jasypt}
use Rattle.des_requests.specs.Inputs.{IsInput}
use Rattle.des_requests.specs.LineFormats.{coding_of, source_of, takes_secret}
use Rattle.des_arguments.specs.StreamArguments.{IsOutput, IsReadTwice, text_or}

-- ---- arguments

-- the number of iterations: 1,000 without one, and no more than ten million
abbrev pub iterations_by : LineArguments → ℕ
iterations_by arguments = unwrap_or arguments.iterations 1000

abbrev pub algorithm_by : LineArguments → Option Algorithm
algorithm_by arguments = algorithm_of (text_or arguments.algorithm (codes "PBEWithMD5AndDES"))

-- arguments of Jasypt ask for an algorithm and its iterations
abbrev pub IsJasypt : LineArguments → Algorithm → ℕ → Type 0
IsJasypt arguments by count =
    (arguments.iv ≡ None) × (arguments.is_base64 ≡ false) × (algorithm_by arguments ≡ Some by)
    × (count ≡ iterations_by arguments) × (1 ≤ count) × (count ≤ 10000000)

abbrev pub FailsAsJasypt : LineArguments → Type 0
FailsAsJasypt arguments =
    (arguments.iv ≢ None) ⊎ (arguments.is_base64 ≡ true) ⊎ (algorithm_by arguments ≡ None) ⊎ (iterations_by arguments ≡ 0)
    ⊎ (10000000 < iterations_by arguments)

-- arguments of MySQL ask for nothing else, and a type of pgcrypto for a vector, which is empty without it
abbrev pub IsOther : LineArguments → ValueFormat → Type 0
IsOther arguments Mysql =
    (arguments.algorithm ≡ None) × (arguments.iterations ≡ None) × (arguments.format.now ≡ codes "mysql") × (arguments.iv ≡ None)
IsOther arguments (Pgcrypto scheme digits) =
    (arguments.algorithm ≡ None) × (arguments.iterations ≡ None) × (arguments.format.now ≢ codes "mysql")
    × (scheme_of arguments.format.now ≡ Some scheme) × (digits.now ≡ text_or arguments.iv [])
IsOther arguments (Jasypt by count) = ⊥

abbrev pub FailsAsOther : LineArguments → Type 0
FailsAsOther arguments =
    (arguments.algorithm ≢ None) ⊎ (arguments.iterations ≢ None)
    ⊎ ((arguments.format.now ≡ codes "mysql") × (arguments.iv ≢ None))
    ⊎ ((arguments.format.now ≢ codes "mysql") × (scheme_of arguments.format.now ≡ None))

-- the format of a name, with what its options ask for
abbrev pub IsFormat : LineArguments → ValueFormat → Type 0
IsFormat arguments (Jasypt by count) = (arguments.format.now ≡ codes "jasypt") × IsJasypt arguments by count
IsFormat arguments format = (arguments.format.now ≢ codes "jasypt") × IsOther arguments format

abbrev pub FailsAsFormat : LineArguments → Type 0
FailsAsFormat arguments =
    ((arguments.format.now ≡ codes "jasypt") × FailsAsJasypt arguments)
    ⊎ ((arguments.format.now ≢ codes "jasypt") × FailsAsOther arguments)

-- an option that the format does not take, or another value of it
abbrev pub IsOfOption : FaultKind → Type 0
IsOfOption kind = (kind ≡ Usage Arguments) ⊎ (kind ≡ Usage ArgumentValue)

-- ---- the whole

-- each word has its meaning in the request, the format takes the secret, and standard input is read once
pub record IsLinesRequest (arguments : LineArguments) (request : LinesRequest) : Type 0 where
  pub format : IsFormat arguments request.format
  pub secret : request.secret ≡ arguments.secret
  pub taken : takes_secret request.format arguments.secret ≡ true
  pub coding : request.coding ≡ coding_of request.format arguments.is_base64
  pub digits : request.writes_digits ≡ arguments.writes_digits
  pub keeps_going : request.keeps_going ≡ arguments.keeps_going
  pub input : IsInput arguments.input request.input
  pub output : IsOutput arguments.output request.output
  pub progress : request.shows_progress ≡ arguments.shows_progress
  pub once : ¬ IsReadTwice (source_of arguments.secret) request.input

-- why arguments ask for nothing
abbrev pub FailsAsLinesRequest : LineArguments → FaultKind → Type 0
FailsAsLinesRequest arguments kind =
    (FailsAsFormat arguments × IsOfOption kind)
    ⊎ ((format : ValueFormat) × IsFormat arguments format × (takes_secret format arguments.secret ≡ false)
    × (kind ≡ Usage PasswordSource))
    ⊎ ((input : Source) × IsInput arguments.input input × IsReadTwice (source_of arguments.secret) input
    × (kind ≡ Usage StandardInputTwice))
