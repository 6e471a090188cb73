-- What `decrypt`, `decrypt_iv`, `encrypt` and `encrypt_iv` of pgcrypto make of columns (PostgreSQL, contrib/pgcrypto, F.28.4 of the
-- manual).
use Rattle.std.specs.Prelude.{ℕ, ℤ, ◌-◌, ◌||◌, Bool, if◌then◌else◌, List, ◌++◌, codes, Option, Some, None, length, replicate, take, drop}
use Rattle.std.specs.Option.{option_map}
use Rattle.std.specs.Str.{str_eq_ignore_ascii_case}
use Rattle.des.specs.Enciphering.{Enciphers}
use Rattle.des.specs.Triple.{EnciphersEde3}
use Rattle.des_columns.specs.Readings.{IsReading}
use Rattle.des_columns.specs.Writings.{IsWriting}
use Rattle.des_columns.specs.declared.form.BlockMode.{BlockMode}
use Rattle.des_columns.specs.declared.form.BlockMode.TheVariants.{Ecb, Cbc}
use Rattle.des_columns.specs.declared.form.ValueForm.{ValueForm}
use Rattle.des_columns.specs.declared.form.ValueForm.TheVariants.{Pkcs7, Unpadded}
use Rattle.des_columns.specs.declared.pgcrypto.Cipher.{Cipher}
use Rattle.des_columns.specs.declared.pgcrypto.Cipher.TheVariants.{Des, DesEcb, TripleDes, TripleDesEcb}
use Rattle.des_columns.specs.declared.pgcrypto.Scheme.{Scheme}

-- ---- the scheme, as `3des-ecb/pad:none`, in any case of letters: cipher block chaining and padding unless it says otherwise

abbrev pub ends_in : List ℕ → List ℕ → Bool
ends_in name end = str_eq_ignore_ascii_case (drop (length name - length end) name) end

abbrev pub form_of : List ℕ → ValueForm
form_of name = if ends_in name (codes "/pad:none") then Unpadded else Pkcs7

abbrev pub before_padding : List ℕ → List ℕ
before_padding name =
    if ends_in name (codes "/pad:none") || ends_in name (codes "/pad:pkcs") then take (length name - 9) name else name

abbrev pub cipher_of : List ℕ → Option Cipher
cipher_of name =
    if str_eq_ignore_ascii_case name (codes "des") || str_eq_ignore_ascii_case name (codes "des-cbc") then Some Des
    else if str_eq_ignore_ascii_case name (codes "des-ecb") then Some DesEcb
    else if str_eq_ignore_ascii_case name (codes "3des") || str_eq_ignore_ascii_case name (codes "3des-cbc")
    then Some TripleDes
    else if str_eq_ignore_ascii_case name (codes "3des-ecb") then Some TripleDesEcb
    else None

abbrev pub scheme_of : List ℕ → Option Scheme
scheme_of name =
    option_map (λ cipher. record { cipher = cipher; form = form_of name }) (cipher_of (before_padding name))

-- ---- a value under a key, and a vector if there is one

-- `size` bytes of a key or a vector: those that are given, cut, or with zeros behind them (contrib/pgcrypto/px.c: combo_init)
abbrev pub filled : ℕ → List ℕ → List ℕ
filled size bytes = take size bytes ++ replicate (size - length bytes) 0

abbrev pub relation_by : Cipher → List ℕ → List ℕ → List ℕ → Type 0
relation_by Des key = Enciphers (filled 8 key)
relation_by DesEcb key = Enciphers (filled 8 key)
relation_by cipher key = EnciphersEde3 (filled 24 key)

abbrev pub mode_by : Cipher → List ℕ → BlockMode
mode_by DesEcb iv = Ecb
mode_by TripleDesEcb iv = Ecb
mode_by cipher iv = Cbc (filled 8 iv)

abbrev pub Reads : Scheme → List ℕ → List ℕ → List ℕ → ℤ → List ℕ → Type 0
Reads by key iv value status text =
    IsReading by.form (mode_by by.cipher iv) (relation_by by.cipher key) value status text

-- no number of a key is written
abbrev pub Writes : Scheme → List ℕ → List ℕ → List ℕ → List ℕ → Type 0
Writes by key iv text value =
    IsWriting by.form 0 (mode_by by.cipher iv) (relation_by by.cipher key) text value
