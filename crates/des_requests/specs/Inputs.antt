-- Where an input is, by the path that names it.
use Rattle.std.specs.Prelude.{◌≡◌, ◌⊎◌, ℕ, List, codes, Option, Some, None}
use Rattle.std.specs.Borrow.{Bor}
use Rattle.des_lines.specs.declared.source.Source.{Source}
use Rattle.des_lines.specs.declared.source.Source.TheVariants.{StandardInput, File}

-- a path that means standard input: `-`, or a name that the system gives it
abbrev pub IsNameOfStandardInput : List ℕ → Type 0
IsNameOfStandardInput path =
    (path ≡ codes "-") ⊎ (path ≡ codes "/dev/stdin") ⊎ (path ≡ codes "/dev/fd/0")
    ⊎ (path ≡ codes "/proc/self/fd/0")

-- standard input, as one of its names or no path asks for, or a file
abbrev pub IsInput : Option (Bor (List ℕ)) → Source → Type 0
IsInput None source = source ≡ StandardInput
IsInput (Some path) StandardInput = IsNameOfStandardInput path.now
IsInput (Some path) (File file) = (¬ IsNameOfStandardInput path.now) × (file ≡ path)
IsInput (Some path) _ = ⊥
