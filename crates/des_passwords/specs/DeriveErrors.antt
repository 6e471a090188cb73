-- The texts of the errors of keys from passwords.
use Rattle.std.specs.Prelude.{ℕ, List, codes}
use Rattle.des_passwords.specs.declared.pbkdf2.DeriveError.{DeriveError}
use Rattle.des_passwords.specs.declared.pbkdf2.DeriveError.TheVariants.{NoIteration, KeyLength}

abbrev pub text_of : DeriveError → List ℕ
text_of NoIteration = codes "the number of iterations is 0"
text_of KeyLength = codes "the key is longer than 2^32 - 1 digests"
