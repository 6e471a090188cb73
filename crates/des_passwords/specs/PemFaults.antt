-- Why a text is not read as an encrypted private key in PEM, and the texts of the errors.
use Rattle.std.specs.Prelude.{◌≡◌, ℕ, List, ◌++◌, codes, Result, Ok, Err, ◌⊎◌}
use Rattle.std.specs.Fmt.{decimal}
use Rattle.des_passwords.specs.declared.pem.PemError.{PemError}
use Rattle.des_passwords.specs.declared.pem.PemError.TheVariants as errors

-- an error without where the name of its cipher lies in memory
pub data Fault : Type 0 where
  Begin : Fault
  End : Fault
  NotEncrypted : Fault
  NoDekInfo : Fault
  Cipher : List ℕ → Fault
  Vector : Fault
  EmptyLine : Fault
  Base64 : ℕ → Fault
  OutOfMemory : Fault

abbrev pub fault_of : PemError → Fault
fault_of errors.Begin = Begin
fault_of errors.End = End
fault_of errors.NotEncrypted = NotEncrypted
fault_of errors.NoDekInfo = NoDekInfo
fault_of (errors.Cipher name) = Cipher name.now
fault_of errors.Vector = Vector
fault_of errors.EmptyLine = EmptyLine
fault_of (errors.Base64 line) = Base64 line
fault_of errors.OutOfMemory = OutOfMemory

-- what a function returned, seen by `view`, is what reading gives
abbrev pub Gives : {X Y : Type 0} → (X → Y) → Result X PemError → Result Y Fault → Type 0
Gives view (Ok x) read = read ≡ Ok (view x)
Gives view (Err e) read = read ≡ Err (fault_of e)

-- the same, unless memory ran out
abbrev pub GivesInMemory : {X Y : Type 0} → (X → Y) → Result X PemError → Result Y Fault → Type 0
GivesInMemory view (Ok x) read = read ≡ Ok (view x)
GivesInMemory view (Err e) read = (fault_of e ≡ OutOfMemory) ⊎ (read ≡ Err (fault_of e))

abbrev pub text_of : PemError → List ℕ
text_of errors.Begin = codes "no line begins an encrypted private key"
text_of errors.End = codes "no END line matches the BEGIN line"
text_of errors.NotEncrypted = codes "the key is not encrypted"
text_of errors.NoDekInfo = codes "no DEK-Info follows Proc-Type"
text_of (errors.Cipher name) = codes "the cipher is neither DES-CBC nor DES-EDE3-CBC"
text_of errors.Vector = codes "the vector does not have sixteen hexadecimal digits"
text_of errors.EmptyLine = codes "no empty line follows DEK-Info"
text_of (errors.Base64 line) = codes "line " ++ decimal line ++ codes " is not Base64"
text_of errors.OutOfMemory = codes "out of memory"
