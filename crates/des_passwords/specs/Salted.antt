-- What `openssl enc` writes if it salts (manual page openssl-enc(1)), and the texts of what is wrong with it.
use Rattle.std.specs.Prelude.{◌≡◌, ℕ, List, ◌++◌, length, codes}
use Rattle.des_passwords.specs.declared.salted.SaltedError.{SaltedError}
use Rattle.des_passwords.specs.declared.salted.SaltedError.TheVariants.{NotSalted, SaltCut}

-- `Salted__`, eight bytes of salt, and what is encrypted
abbrev pub IsSalted : List ℕ → List ℕ → List ℕ → Type 0
IsSalted bytes salt encrypted = (bytes ≡ codes "Salted__" ++ salt ++ encrypted) × (length salt ≡ 8)

abbrev pub text_of : SaltedError → List ℕ
text_of NotSalted = codes "the bytes do not begin with Salted__"
text_of SaltCut = codes "the bytes end within the salt"
