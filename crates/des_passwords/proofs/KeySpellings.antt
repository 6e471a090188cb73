-- An encrypted private key that is spelled so is read.
use Rattle.std.proofs.Common.{◌≡◌, ◌∙◌, refl, sym, ap, ℕ, ◌<◌, ◌^◌, Bool, true, false, eq-eqb, List, [], ◌∷◌, ◌++◌, length, length-append, replicate, append-nil, Ok, arith}
use Rattle.std.specs.Str.{bytes_eq}
use Rattle.des_passwords.specs.Der.{fewest, length_octets, element, integer}
use Rattle.des_passwords.specs.DerReading.{length_at, tag_at, element_at, digits_of, last_element_at, whole_element_at, iterations_at}
use Rattle.des_passwords.specs.EncryptedKeys.{Encryption, pbe_md5_des, pbe_sha1_des, pbe_sha1_three_keys, pbe_sha1_two_keys, pbes2, id_pbkdf2, des_ede3_cbc, eight, salt_of, pbe_of, pbe_named, pbe_by, given_length, after_key_length, prf_named, prf_of, derivation_of, pbkdf2_of, eight_at, vector_at, pbes2_of, encryption_named, encryption_of, encrypted_key_of}
use Rattle.des_passwords.specs.KeySpellings.{Named, algorithm, key_length, prf, pbkdf2_params, pbes2_params, key_file, IsRead}
use Rattle.des_passwords.specs.TextLines.{are_blanks}
use Rattle.des_passwords.specs.declared.encrypted_keys.Scheme.{Scheme}
use Rattle.des_passwords.specs.declared.encrypted_keys.Scheme.TheVariants.{Pbes1Md5, Pbes1Sha1, Pkcs12ThreeKeys, Pkcs12TwoKeys, Pbes2Sha1, Pbes2Sha256, DekInfoDes, DekInfoTripleDes}
use Rattle.des_passwords.proofs.DerElements.{element_again}
use Rattle.des_passwords.proofs.DerIntegers.{AreIterations, iterations_again}

-- ---- lengths

abbrev IsSmall : List ℕ → Type 0
IsSmall l = length l < 2 ^ 16

left : (xs ys : List ℕ) → IsSmall (xs ++ ys) → IsSmall xs
left xs ys small = omega (arith, length-append xs ys, small)

right : (xs ys : List ℕ) → IsSmall (xs ++ ys) → IsSmall ys
right xs ys small = omega (arith, length-append xs ys, small)

inside : (tag : ℕ) (contents : List ℕ) → IsSmall (element tag contents) → IsSmall contents
inside tag contents small = right (tag ∷ length_octets (length contents)) contents small

-- ---- parts

last_again : (tag : ℕ) (contents : List ℕ) → IsSmall contents
    → last_element_at tag (element tag contents) ≡ Ok contents
unfolding last_element_at
last_again tag contents small =
    let read = ap (element_at tag) (sym (append-nil (element tag contents))) ∙ element_again tag contents [] small in
    rw read refl

whole_again : (tag : ℕ) (contents blanks : List ℕ) → IsSmall contents → are_blanks blanks ≡ true
    → whole_element_at tag (element tag contents ++ blanks) ≡ Ok contents
unfolding whole_element_at
whole_again tag contents blanks small blank = rw (element_again tag contents blanks small, blank) refl

last_iterations : (most n : ℕ) → AreIterations most n → most < 2 ^ 32
    → iterations_at most (integer n) ≡ Ok (n, [])
last_iterations most n are bound =
    ap (iterations_at most) (sym (append-nil (integer n))) ∙ iterations_again most n [] are bound

eight_again : (octets : List ℕ) → length octets ≡ 8 → eight octets ≡ Ok octets
eight_again octets long = rw (eq-eqb (length octets) 8 long) refl

-- ---- PBES1 and PKCS #12

pbe_again : (most : ℕ) (scheme : Scheme) (salt : List ℕ) (n : ℕ) → salt_of scheme salt ≡ Ok salt
    → IsSmall (element 0x04 salt ++ integer n) → AreIterations most n → most < 2 ^ 32
    → pbe_of most scheme (element 0x30 (element 0x04 salt ++ integer n))
    ≡ Ok (record { scheme = scheme; salt = salt; iterations = n; vector = replicate 8 0 })
unfolding pbe_of
pbe_again most scheme salt n read small are bound =
    rw (
      last_again 0x30 (element 0x04 salt ++ integer n) small,
      element_again 0x04 salt (integer n) (inside 0x04 salt (left (element 0x04 salt) (integer n) small)),
      read,
      last_iterations most n are bound,
    ) refl

-- ---- PBES2

length_again : (named : Bool) (rest : List ℕ) → after_key_length rest ≡ Ok rest
    → after_key_length (key_length named ++ rest) ≡ Ok rest
unfolding fewest digits_of after_key_length given_length
length_again true rest other = rw (element_again 0x02 (24 ∷ []) rest (omega arith)) refl
length_again false rest other = other

-- a function of PBKDF2, which begins no number
record IsFunction (scheme : Scheme) (named : Bool) : Type 0 where
  no_number : after_key_length (prf scheme named) ≡ Ok (prf scheme named)
  read : prf_of (prf scheme named) ≡ Ok scheme

sha1_again : (named : Bool) → IsFunction Pbes2Sha1 named
unfolding after_key_length prf_of prf_named last_element_at element_at tag_at length_at
sha1_again true = record { no_number = refl; read = refl }
sha1_again false = record { no_number = refl; read = refl }

sha256_again : (named : Bool) → IsFunction Pbes2Sha256 named
unfolding after_key_length prf_of prf_named last_element_at element_at tag_at length_at
sha256_again named = record { no_number = refl; read = refl }

-- what PBES2 says
abbrev encryption : Scheme → List ℕ → ℕ → List ℕ → Encryption
encryption scheme salt n vector = record { scheme = scheme; salt = salt; iterations = n; vector = vector }

-- what follows the salt
abbrev after_salt : Named → Scheme → ℕ → List ℕ
after_salt named scheme n = integer n ++ (key_length named.key_length ++ prf scheme named.prf)

derivation_again : (most : ℕ) (named : Named) (scheme : Scheme) (salt : List ℕ) (n : ℕ) (vector : List ℕ)
    → IsFunction scheme named.prf → AreIterations most n → most < 2 ^ 32
    → IsSmall (element 0x04 salt ++ after_salt named scheme n)
    → derivation_of most vector (pbkdf2_params named (encryption scheme salt n vector))
    ≡ Ok (encryption scheme salt n vector)
unfolding derivation_of
derivation_again most named scheme salt n vector function are bound small =
    let rest = key_length named.key_length ++ prf scheme named.prf in
    rw (
      last_again 0x30 (element 0x04 salt ++ after_salt named scheme n) small,
      element_again 0x04 salt (after_salt named scheme n)
          (inside 0x04 salt (left (element 0x04 salt) (after_salt named scheme n) small)),
      iterations_again most n rest are bound,
      length_again named.key_length (prf scheme named.prf) function.no_number,
      function.read,
    ) refl

pbkdf2_again : (most : ℕ) (parameters vector : List ℕ) (e : Encryption)
    → derivation_of most vector parameters ≡ Ok e
    → pbkdf2_of most (element 0x06 id_pbkdf2 ++ parameters) vector ≡ Ok e
unfolding pbkdf2_of
pbkdf2_again most parameters vector e read =
    rw (element_again 0x06 id_pbkdf2 parameters (omega arith)) read

eight_at_again : (octets : List ℕ) → length octets ≡ 8 → eight_at (element 0x04 octets) ≡ Ok octets
unfolding eight_at
eight_at_again octets long = rw (last_again 0x04 octets (omega (arith, long))) (eight_again octets long)

vector_again : (vector : List ℕ) → length vector ≡ 8
    → IsSmall (element 0x06 des_ede3_cbc ++ element 0x04 vector)
    → vector_at (algorithm des_ede3_cbc (element 0x04 vector)) ≡ Ok vector
unfolding vector_at
vector_again vector long small =
    rw (
      last_again 0x30 (element 0x06 des_ede3_cbc ++ element 0x04 vector) small,
      element_again 0x06 des_ede3_cbc (element 0x04 vector) (omega arith),
    ) (eight_at_again vector long)

pbes2_again : (most : ℕ) (parameters vector : List ℕ) (e : Encryption)
    → derivation_of most vector parameters ≡ Ok e → length vector ≡ 8
    → IsSmall (algorithm id_pbkdf2 parameters ++ algorithm des_ede3_cbc (element 0x04 vector))
    → pbes2_of most (element 0x30 (algorithm id_pbkdf2 parameters ++ algorithm des_ede3_cbc (element 0x04 vector)))
    ≡ Ok e
unfolding pbes2_of
pbes2_again most parameters vector e read long small =
    let derivation = element 0x06 id_pbkdf2 ++ parameters in
    let cipher_contents = element 0x06 des_ede3_cbc ++ element 0x04 vector in
    let cipher = element 0x30 cipher_contents in
    let front = inside 0x30 derivation (left (element 0x30 derivation) cipher small) in
    let back = inside 0x30 cipher_contents (right (element 0x30 derivation) cipher small) in
    rw (
      last_again 0x30 (element 0x30 derivation ++ cipher) small,
      element_again 0x30 derivation cipher front,
      vector_again vector long back,
    ) (pbkdf2_again most parameters vector e read)

-- ---- the file

-- an object identifier of a scheme that derives the vector with the key
record IsOid (oid : List ℕ) (scheme : Scheme) : Type 0 where
  small : IsSmall oid
  no_pbes2 : bytes_eq oid pbes2 ≡ false
  names : pbe_named oid ≡ Ok scheme

first_again : (most : ℕ) (oid parameters : List ℕ) (scheme : Scheme) (e : Encryption) → IsOid oid scheme
    → pbe_of most scheme parameters ≡ Ok e → encryption_of most (element 0x06 oid ++ parameters) ≡ Ok e
unfolding encryption_of encryption_named pbe_by
first_again most oid parameters scheme e is read =
    rw (element_again 0x06 oid parameters is.small, is.no_pbes2, is.names) read

second_again : (most : ℕ) (parameters : List ℕ) (e : Encryption) → pbes2_of most parameters ≡ Ok e
    → encryption_of most (element 0x06 pbes2 ++ parameters) ≡ Ok e
unfolding encryption_of encryption_named
second_again most parameters e read = rw (element_again 0x06 pbes2 parameters (omega arith)) read

-- the algorithm and what is encrypted
file_again : (most : ℕ) (encryption encrypted blanks : List ℕ) (e : Encryption)
    → encryption_of most encryption ≡ Ok e → are_blanks blanks ≡ true
    → IsSmall (element 0x30 encryption ++ element 0x04 encrypted)
    → encrypted_key_of most (element 0x30 (element 0x30 encryption ++ element 0x04 encrypted) ++ blanks)
    ≡ Ok (e, encrypted)
unfolding encrypted_key_of
file_again most encryption encrypted blanks e read blank small =
    let text = element 0x04 encrypted in
    rw (
      whole_again 0x30 (element 0x30 encryption ++ text) blanks small blank,
      element_again 0x30 encryption text (inside 0x30 encryption (left (element 0x30 encryption) text small)),
      last_again 0x04 encrypted (inside 0x04 encrypted (right (element 0x30 encryption) text small)),
      read,
    ) refl

-- under such a scheme
pbe_file : (most : ℕ) (oid : List ℕ) (scheme : Scheme) (salt : List ℕ) (n : ℕ) (vector encrypted blanks : List ℕ)
    → IsOid oid scheme → salt_of scheme salt ≡ Ok salt → vector ≡ replicate 8 0 → AreIterations most n → most < 2 ^ 32
    → are_blanks blanks ≡ true
    → IsSmall (algorithm oid (element 0x30 (element 0x04 salt ++ integer n)) ++ element 0x04 encrypted)
    → encrypted_key_of most (element 0x30
    (algorithm oid (element 0x30 (element 0x04 salt ++ integer n)) ++ element 0x04 encrypted) ++ blanks)
    ≡ Ok (encryption scheme salt n vector, encrypted)
pbe_file most oid scheme salt n vector encrypted blanks is read zeros are bound blank small =
    let inner = element 0x04 salt ++ integer n in
    let parameters = element 0x06 oid ++ element 0x30 inner in
    let outer_small = inside 0x30 parameters (left (element 0x30 parameters) (element 0x04 encrypted) small) in
    let inner_small = inside 0x30 inner (right (element 0x06 oid) (element 0x30 inner) outer_small) in
    file_again most parameters encrypted blanks (encryption scheme salt n vector)
    (first_again most oid (element 0x30 inner) scheme (encryption scheme salt n vector) is
    (pbe_again most scheme salt n read inner_small are bound
    ∙ ap (λ (v : List ℕ). Ok (encryption scheme salt n v)) (sym zeros)))
    blank small

is_md5 : IsOid pbe_md5_des Pbes1Md5
unfolding pbe_named
is_md5 = record { small = omega arith; no_pbes2 = refl; names = refl }

is_sha1 : IsOid pbe_sha1_des Pbes1Sha1
unfolding pbe_named
is_sha1 = record { small = omega arith; no_pbes2 = refl; names = refl }

is_three_keys : IsOid pbe_sha1_three_keys Pkcs12ThreeKeys
unfolding pbe_named
is_three_keys = record { small = omega arith; no_pbes2 = refl; names = refl }

is_two_keys : IsOid pbe_sha1_two_keys Pkcs12TwoKeys
unfolding pbe_named
is_two_keys = record { small = omega arith; no_pbes2 = refl; names = refl }

-- under PBES2
pbes2_file : (most : ℕ) (named : Named) (scheme : Scheme) (salt : List ℕ) (n : ℕ) (vector encrypted blanks : List ℕ)
    → IsFunction scheme named.prf → AreIterations most n → most < 2 ^ 32 → length vector ≡ 8
    → are_blanks blanks ≡ true
    → IsSmall (algorithm pbes2 (pbes2_params named (encryption scheme salt n vector)) ++ element 0x04 encrypted)
    → encrypted_key_of most (element 0x30
    (algorithm pbes2 (pbes2_params named (encryption scheme salt n vector)) ++ element 0x04 encrypted) ++ blanks)
    ≡ Ok (encryption scheme salt n vector, encrypted)
pbes2_file most named scheme salt n vector encrypted blanks function are bound long blank small =
    let e = encryption scheme salt n vector in
    let salt_and_count = element 0x04 salt ++ after_salt named scheme n in
    let parameters = pbkdf2_params named e in
    let derivation = element 0x06 id_pbkdf2 ++ parameters in
    let cipher = algorithm des_ede3_cbc (element 0x04 vector) in
    let both = algorithm id_pbkdf2 parameters ++ cipher in
    let whole = element 0x06 pbes2 ++ element 0x30 both in
    let whole_small = inside 0x30 whole (left (element 0x30 whole) (element 0x04 encrypted) small) in
    let both_small = inside 0x30 both (right (element 0x06 pbes2) (element 0x30 both) whole_small) in
    let derivation_small = inside 0x30 derivation (left (element 0x30 derivation) cipher both_small) in
    let inner_small =
    inside 0x30 salt_and_count (right (element 0x06 id_pbkdf2) (element 0x30 salt_and_count) derivation_small) in
    let read = derivation_again most named scheme salt n vector function are bound inner_small in
    file_again most whole encrypted blanks e
    (second_again most (element 0x30 both) e (pbes2_again most parameters vector e read long both_small))
    blank small

parts_again : (most : ℕ) (named : Named) (scheme : Scheme) (salt : List ℕ) (n : ℕ)
    (vector encrypted blanks : List ℕ) → IsRead most named (encryption scheme salt n vector) encrypted
    → are_blanks blanks ≡ true → most < 2 ^ 32
    → encrypted_key_of most (key_file named (encryption scheme salt n vector) encrypted ++ blanks)
    ≡ Ok (encryption scheme salt n vector, encrypted)
parts_again most named Pbes1Md5 salt n vector encrypted blanks h blank bound =
    pbe_file most pbe_md5_des Pbes1Md5 salt n vector encrypted blanks is_md5 (eight_again salt h.scheme.0) h.scheme.1
    (record { some = h.some; few = h.few }) bound blank h.size
parts_again most named Pbes1Sha1 salt n vector encrypted blanks h blank bound =
    pbe_file most pbe_sha1_des Pbes1Sha1 salt n vector encrypted blanks is_sha1 (eight_again salt h.scheme.0) h.scheme.1
    (record { some = h.some; few = h.few }) bound blank h.size
parts_again most named Pkcs12ThreeKeys salt n vector encrypted blanks h blank bound =
    pbe_file most pbe_sha1_three_keys Pkcs12ThreeKeys salt n vector encrypted blanks is_three_keys refl h.scheme
    (record { some = h.some; few = h.few }) bound blank h.size
parts_again most named Pkcs12TwoKeys salt n vector encrypted blanks h blank bound =
    pbe_file most pbe_sha1_two_keys Pkcs12TwoKeys salt n vector encrypted blanks is_two_keys refl h.scheme
    (record { some = h.some; few = h.few }) bound blank h.size
parts_again most named Pbes2Sha1 salt n vector encrypted blanks h blank bound =
    pbes2_file most named Pbes2Sha1 salt n vector encrypted blanks (sha1_again named.prf)
    (record { some = h.some; few = h.few }) bound h.scheme blank h.size
parts_again most named Pbes2Sha256 salt n vector encrypted blanks h blank bound =
    pbes2_file most named Pbes2Sha256 salt n vector encrypted blanks (sha256_again named.prf)
    (record { some = h.some; few = h.few }) bound h.scheme blank h.size
parts_again most named DekInfoDes salt n vector encrypted blanks h blank bound = absurd h.scheme
parts_again most named DekInfoTripleDes salt n vector encrypted blanks h blank bound = absurd h.scheme

pub key_again : (most : ℕ) (named : Named) (blanks : List ℕ) (e : Encryption) (encrypted : List ℕ)
    → IsRead most named e encrypted → are_blanks blanks ≡ true → most < 2 ^ 32
    → encrypted_key_of most (key_file named e encrypted ++ blanks) ≡ Ok (e, encrypted)
key_again most named blanks e encrypted h blank bound =
    parts_again most named e.scheme e.salt e.iterations e.vector encrypted blanks h blank bound
