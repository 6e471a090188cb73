-- A value that is written of a text is read as that text.
use Rattle.std.proofs.Common.{◌≡◌, ℕ, ℤ, zero, suc, ◌+◌, ◌-◌, ◌*◌, ◌/◌, ◌%◌, ◌≤◌, ◌==◌, nat_le, Bool, true, if◌then◌else◌, Option, Some, None, List, [], ◌∷◌, ◌++◌, length, take, drop, replicate, get_or, refl, ap, ap₂, sym, ◌∙◌, arith, length-append, append_assoc, eq-eqb}
use Rattle.std.specs.List.{list_all}
use Rattle.std.specs.Option.{option_map, option_map_or}
use Rattle.std.proofs.lemmas.Bool.{and_from, le-leb}
use Rattle.std.proofs.lemmas.Option.{none-some}
use Rattle.std.proofs.lemmas.List.{drop_at, get_or_at, length-replicate, nil_from_length, replicate_more, take_all, take_at}
use Rattle.des.specs.Triple.{EnciphersEde3}
use Rattle.des_columns.specs.Forms.{fault_before, part_after, pkcs7_size, size_in, status_after, text_after}
use Rattle.des_columns.specs.Mysql.{last_of, padded, tail_after}
use Rattle.des_columns.specs.MysqlColumns.{Reads as ReadsMysql, Writes as WritesMysql}
use Rattle.des_columns.specs.PgcryptoColumns.{Reads as ReadsPgcrypto, Writes as WritesPgcrypto, before_padding, cipher_of, form_of, mode_by, relation_by, scheme_of}
use Rattle.des_columns.specs.EncryptedBytes.{IsEncrypted}
use Rattle.des_columns.specs.Readings.{IsReading}
use Rattle.des_columns.specs.Writings.{IsTextSize, IsWriting, value_size}
use Rattle.des_columns.specs.declared.form.BlockMode.{BlockMode}
use Rattle.des_columns.specs.declared.form.BlockMode.TheVariants.{Cbc}
use Rattle.des_columns.specs.declared.form.ValueForm.{ValueForm}
use Rattle.des_columns.specs.declared.form.ValueForm.TheVariants.{Mysql, Pkcs7, Unpadded}
use Rattle.des_columns.specs.declared.pgcrypto.Cipher.{Cipher}
use Rattle.des_columns.specs.declared.pgcrypto.Scheme.{Scheme}
use Rattle.des_columns.specs.declared.status.TheConstants.{OK, ERR_BLOCKS}
use Rattle.des_columns.proofs.PaddedTexts.{length-starred, value_size-some}

-- ---- the last byte, which counts the padding

last-at : (front : List ℕ) (n : ℕ) → last_of (front ++ n ∷ []) ≡ n
last-at front n =
    let place : length (front ++ n ∷ []) - 1 ≡ length front = omega (arith, length-append front (n ∷ [])) in
    ap (λ k. get_or (front ++ n ∷ []) k 0) place ∙ get_or_at front n [] 0 (length front) refl

last-starred : (text : List ℕ) → last_of (padded text) ≡ 8 - length text % 8
last-starred text =
    let stars : List ℕ = replicate (7 - length text % 8) 42 in
    let count : ℕ = 8 - length text % 8 in
    ap last_of (sym (append_assoc text stars (count ∷ []))) ∙ last-at (text ++ stars) count

last-counted : (text : List ℕ) (n : ℕ) → 1 ≤ n → last_of (text ++ replicate n n) ≡ n
last-counted text n some =
    let rest : ℕ = n - 1 in
    let more : n ≡ rest + 1 = omega arith in
    ap (λ k. last_of (text ++ replicate k n)) more
    ∙ ap (λ l. last_of (text ++ l)) (sym (replicate_more rest n))
    ∙ ap last_of (sym (append_assoc text (replicate rest n) (n ∷ [])))
    ∙ last-at (text ++ replicate rest n) n

-- ---- what was padded is as long as the text

size-starred : (text : List ℕ) → size_in Mysql (padded text) ≡ Some (length text)
size-starred text =
    let last : last_of (padded text) ≡ 8 - length text % 8 = last-starred text in
    let few : nat_le (last_of (padded text)) 8 ≡ true = le-leb (last_of (padded text)) 8 (omega (arith, last)) in
    let size : length (padded text) - last_of (padded text) ≡ length text = omega (arith, last, length-starred text) in
    rw few (ap Some size)

all-equal : (n count : ℕ) → list_all (λ byte. byte == n) (replicate count n) ≡ true
all-equal n zero = refl
all-equal n (suc count) = and_from (n == n) _ (eq-eqb n n refl) (all-equal n count)

size-counted : (text : List ℕ) (n : ℕ) → 1 ≤ n → n ≤ 8 → size_in Pkcs7 (text ++ replicate n n) ≡ Some (length text)
size-counted text n some few =
    let plain : List ℕ = text ++ replicate n n in
    let long : length plain ≡ length text + n =
    length-append text (replicate n n) ∙ ap (λ k. length text + k) (length-replicate n n) in
    let front : length plain - n ≡ length text = omega (arith, long) in
    let within : nat_le n (length plain) ≡ true = le-leb n (length plain) (omega (arith, long)) in
    let equal : list_all (λ byte. byte == n) (drop (length plain - n) plain) ≡ true =
    ap (λ k. list_all (λ byte. byte == n) (drop k plain)) front
    ∙ ap (list_all (λ byte. byte == n)) (drop_at text (replicate n n) (length text) refl)
    ∙ all-equal n n in
    ap (λ k. pkcs7_size k plain) (last-counted text n some)
    ∙ rw (le-leb 1 n some, le-leb n 8 few, within, equal) (ap Some front)

-- ---- a value is none that can't be decrypted

no_fault-mysql : (byte : ℕ) (blocks : List ℕ) → 128 ≤ byte → 8 ≤ length blocks → length blocks % 8 ≡ 0
    → fault_before Mysql (byte ∷ blocks) ≡ None
no_fault-mysql byte blocks high some whole =
    rw (
      le-leb 9 (length (byte ∷ blocks)) (omega arith),
      eq-eqb (length (byte ∷ blocks) % 8) 1 (omega arith),
      le-leb 128 byte high,
    ) refl

no_fault-whole : (value : List ℕ) → length value % 8 ≡ 0 → fault_before Unpadded value ≡ None
no_fault-whole value whole =
    let P : Bool → Option ℤ = λ t. if t then None else Some ERR_BLOCKS in
    ap P (eq-eqb (length value % 8) 0 whole)

no_fault-pkcs7 : (value : List ℕ) → 8 ≤ length value → length value % 8 ≡ 0 → fault_before Pkcs7 value ≡ None
no_fault-pkcs7 [] some whole = absurd (omega (arith, some))
no_fault-pkcs7 (byte ∷ value) some whole = no_fault-whole (byte ∷ value) whole

-- ---- the law

module _ (mode : BlockMode) (Relates : List ℕ → List ℕ → Type 0) where
  reading : (form : ValueForm) (value blocks plain text : List ℕ) → fault_before form value ≡ None
      → part_after None form value ≡ blocks → size_in form plain ≡ Some (length text) → take (length text) plain ≡ text
      → IsEncrypted mode Relates plain blocks → IsReading form mode Relates value OK text
  reading form value blocks plain text none part size front encrypted = record {
    plain = plain;
    encrypted = rw (none, part) encrypted;
    status_is = sym (ap₂ status_after none size);
    text_is =
        sym (ap₂ (λ (fault : Option ℤ) (n : Option ℕ). text_after fault n plain) none size ∙ front);
  }

  -- what is written of a text is read as it
  pub writing-read : (form : ValueForm) (number : ℕ) (text value : List ℕ) → IsTextSize form (length text)
      → length value ≡ value_size form (length text) → IsWriting form number mode Relates text value
      → IsReading form mode Relates value OK text
  writing-read Mysql number [] value is size writes =
      let none : value ≡ [] = nil_from_length value size in
      reading Mysql value writes.blocks [] [] (ap (fault_before Mysql) none)
      (ap (drop 1) none ∙ sym none ∙ writes.value_is) refl refl writes.encrypted
  writing-read Mysql number (byte ∷ text) value is size writes =
      let blocks : List ℕ = writes.blocks in
      let long : length blocks ≡ (length (byte ∷ text) / 8 + 1) * 8 =
      omega (arith, ap length writes.value_is, size, value_size-some byte text) in
      reading Mysql value blocks (padded (byte ∷ text)) (byte ∷ text)
      (ap (fault_before Mysql) writes.value_is
      ∙ no_fault-mysql (128 + number) blocks (omega arith) (omega (arith, long)) (omega (arith, long)))
      (ap (drop 1) writes.value_is) (size-starred (byte ∷ text))
      (take_at (byte ∷ text) (tail_after (length (byte ∷ text) % 8)) (length (byte ∷ text)) refl) writes.encrypted
  writing-read Pkcs7 number text value is size writes =
      let count : ℕ = 8 - length text % 8 in
      reading Pkcs7 value writes.blocks (text ++ replicate count count) text
      (no_fault-pkcs7 value (omega (arith, size)) (omega (arith, size))) writes.value_is
      (size-counted text count (omega arith) (omega arith)) (take_at text (replicate count count) (length text) refl)
      writes.encrypted
  writing-read Unpadded number text value is size writes =
      reading Unpadded value writes.blocks text text (no_fault-whole value (ap (λ n. n % 8) size ∙ is)) writes.value_is refl
      (take_all (length text) text (omega arith)) writes.encrypted

-- ---- of MySQL

-- the server decrypts what it encrypted to the text
pub mysql-read : (key : List ℕ) (number : ℕ) (text value : List ℕ) → length value ≡ value_size Mysql (length text)
    → WritesMysql key number text value → ReadsMysql key value OK text
mysql-read key number text value = writing-read (Cbc (replicate 8 0)) (EnciphersEde3 key) Mysql number text value tt

-- ---- of pgcrypto

-- a scheme that has a name has the form of its name
form-found : (form : ValueForm) (found : Option Cipher) (by : Scheme)
    → option_map (λ (cipher : Cipher). record { cipher = cipher; form = form }) found ≡ Some by → by.form ≡ form
form-found form None by named = absurd (none-some by named)
form-found form (Some cipher) by named =
    sym (ap (λ (o : Option Scheme). option_map_or (λ (s : Scheme). s.form) o form) named)

pub form-named : (name : List ℕ) (by : Scheme) → scheme_of name ≡ Some by → by.form ≡ form_of name
form-named name by named = form-found (form_of name) (cipher_of (before_padding name)) by named

pub pgcrypto-read : (by : Scheme) (key iv text value : List ℕ) → IsTextSize by.form (length text)
    → length value ≡ value_size by.form (length text) → WritesPgcrypto by key iv text value
    → ReadsPgcrypto by key iv value OK text
pgcrypto-read by key iv text value is size writes =
    writing-read (mode_by by.cipher iv) (relation_by by.cipher key) by.form 0 text value is size writes
