-- Keys and vectors of password-based encryption, by the names that frameworks give it.
use Rattle.std.specs.Prelude.{◌≡◌, ℕ, ◌||◌, if◌then◌else◌, List, ◌++◌, codes, Option, Some, None}
use Rattle.std.specs.Str.{str_eq_ignore_ascii_case}
use Rattle.md5.specs.Md5.{md5}
use Rattle.sha1.specs.Sha1.{sha1}
use Rattle.des_passwords.specs.Pbkdf1.{pbkdf1}
use Rattle.des_passwords.specs.Pkcs12.{pkcs12}
use Rattle.des_columns.specs.JavaTripleDes.{derived}
use Rattle.des_columns.specs.declared.pbe.Algorithm.{Algorithm}
use Rattle.des_columns.specs.declared.pbe.Algorithm.TheVariants.{Md5Des, Sha1Des, Md5TripleDes, Sha1TripleDes, Sha1TwoKeys}

-- the algorithm of a name, in any case of letters
abbrev pub algorithm_of : List ℕ → Option Algorithm
algorithm_of name =
    if str_eq_ignore_ascii_case name (codes "PBEWithMD5AndDES")
    || str_eq_ignore_ascii_case name (codes "pbeWithMD5AndDES-CBC") then Some Md5Des
    else if str_eq_ignore_ascii_case name (codes "PBEWithSHA1AndDES")
    || str_eq_ignore_ascii_case name (codes "pbeWithSHA1AndDES-CBC") then Some Sha1Des
    else if str_eq_ignore_ascii_case name (codes "PBEWithMD5AndTripleDES") then Some Md5TripleDes
    else if str_eq_ignore_ascii_case name (codes "PBEWithSHA1AndDESede")
    || str_eq_ignore_ascii_case name (codes "pbeWithSHAAnd3-KeyTripleDES-CBC") then Some Sha1TripleDes
    else if str_eq_ignore_ascii_case name (codes "pbeWithSHAAnd2-KeyTripleDES-CBC") then Some Sha1TwoKeys
    else None

abbrev pub key_size : Algorithm → ℕ
key_size Md5Des = 8
key_size Sha1Des = 8
key_size Sha1TwoKeys = 16
key_size by = 24

-- Java's rule takes a salt of 8 bytes, the others any
abbrev pub IsSaltOf : Algorithm → ℕ → Type 0
IsSaltOf Md5TripleDes size = size ≡ 8
IsSaltOf by size = Unit {0}

-- the key, and the vector behind it (PKCS #5: RFC 8018, section 6.1.1; PKCS #12: RFC 7292, appendix B.3)
abbrev pub derived_by : Algorithm → List ℕ → List ℕ → ℕ → List ℕ
derived_by Md5Des password salt count = pbkdf1 md5 password salt count 16
derived_by Sha1Des password salt count = pbkdf1 sha1 password salt count 16
derived_by Md5TripleDes password salt count = derived password salt count
derived_by Sha1TripleDes password salt count =
    pkcs12 sha1 20 1 password salt count 24 ++ pkcs12 sha1 20 2 password salt count 8
derived_by Sha1TwoKeys password salt count =
    pkcs12 sha1 20 1 password salt count 16 ++ pkcs12 sha1 20 2 password salt count 8
