-- An encrypted private key that is read is spelled so.
use Rattle.std.proofs.Common.{◌≡◌, ◌∙◌, refl, sym, ap, subst, ℕ, ◌<◌, ◌^◌, ◌⊎◌, inl, inr, Bool, true, false, eqb, List, [], ◌∷◌, ◌++◌, length, replicate, append-nil, Ok, Err, arith}
use Rattle.std.proofs.lemmas.Bool.{eqb-true}
use Rattle.std.proofs.lemmas.Slice.Eq.{bytes_eq-Decides}
use Rattle.std.specs.Str.{bytes_eq}
use Rattle.des_passwords.specs.Der.{fewest, element, integer}
use Rattle.des_passwords.specs.DerReading.{at_end, at_blanks, digits_of, element_at, last_element_at, whole_element_at, iterations_at}
use Rattle.des_passwords.specs.EncryptedKeys.{Encryption, pbe_md5_des, pbe_sha1_des, pbe_sha1_three_keys, pbe_sha1_two_keys, pbes2, id_pbkdf2, hmac_sha1, hmac_sha256, des_ede3_cbc, null, eight, salt_of, pbe_of, pbe_named, pbe_by, given_length, after_key_length, with_null, prf_named, prf_of, derivation_of, pbkdf2_of, eight_at, vector_at, pbes2_of, encryption_named, encryption_of, encrypted_key_of}
use Rattle.des_passwords.specs.KeyFileFaults.{Structure, Algorithm, KeyDerivation, KeyLength, Prf, Cipher}
use Rattle.des_passwords.specs.KeySpellings.{Named, algorithm, pbe_parameter, key_length, prf, pbkdf2_params, pbes2_params, encryption_algorithm, key_contents, key_file, IsInFile, IsRead}
use Rattle.des_passwords.specs.TextLines.{are_blanks}
use Rattle.des_passwords.specs.declared.encrypted_keys.Scheme.{Scheme}
use Rattle.des_passwords.specs.declared.encrypted_keys.Scheme.TheVariants.{Pbes1Md5, Pbes1Sha1, Pkcs12ThreeKeys, Pkcs12TwoKeys, Pbes2Sha1, Pbes2Sha256, DekInfoDes, DekInfoTripleDes}
use Rattle.des_passwords.proofs.DerElements.{IsBytes, either, ok_is, no_fault, bind_ok, element_takes}
use Rattle.des_passwords.proofs.DerIntegers.{AreIterations, digits_take, iterations_take}

-- ---- the ends of elements

empty : (l : List ℕ) → length l ≡ 0 → l ≡ []
empty [] e = refl
empty (b ∷ rest) e = absurd (omega (arith, e))

at_end_is : {A : Type 0} (rest : List ℕ) (x y : A) → at_end rest x ≡ Ok y → (rest ≡ []) × (x ≡ y)
at_end_is rest x y e =
    elim (either (eqb (length rest) 0) (Ok x) (Err Structure) (Ok y) e) [
      | inl none ↦ (empty rest (eqb-true (length rest) 0 none.0), ok_is x y none.1)
      | inr some ↦ absurd (no_fault Structure y some.1)
    ]

-- an element that is all of the octets
pub record IsLast (bytes : List ℕ) (tag : ℕ) (contents : List ℕ) : Type 0 where
  pub parts : bytes ≡ element tag contents
  pub small : length contents < 2 ^ 16
  pub fits : IsBytes contents

last_takes : (tag : ℕ) (bytes contents : List ℕ) → IsBytes bytes → last_element_at tag bytes ≡ Ok contents
    → IsLast bytes tag contents
unfolding last_element_at
last_takes tag bytes contents fits e =
    let a = bind_ok (element_at tag bytes) (λ x. at_end x.1 x.0) contents e in
    let taken = element_takes tag bytes a.0 fits a.1 in
    let end = at_end_is a.0.1 a.0.0 contents a.2 in
    subst (IsLast bytes tag) end.1 (record {
      parts = taken.parts ∙ ap (λ (l : List ℕ). element tag a.0.0 ++ l) end.0 ∙ append-nil (element tag a.0.0);
      small = taken.small;
      fits = taken.contents_fit;
    })

-- an element that blanks alone follow
pub record IsWhole (bytes : List ℕ) (tag : ℕ) (contents : List ℕ) : Type 0 where
  pub blanks : List ℕ
  pub blank : are_blanks blanks ≡ true
  pub parts : bytes ≡ element tag contents ++ blanks
  pub small : length contents < 2 ^ 16
  pub fits : IsBytes contents

at_blanks_is : {A : Type 0} (rest : List ℕ) (x y : A) → at_blanks rest x ≡ Ok y → (are_blanks rest ≡ true) × (x ≡ y)
at_blanks_is rest x y e =
    elim (either (are_blanks rest) (Ok x) (Err Structure) (Ok y) e) [
      | inl blank ↦ (blank.0, ok_is x y blank.1)
      | inr other ↦ absurd (no_fault Structure y other.1)
    ]

whole_takes : (tag : ℕ) (bytes contents : List ℕ) → IsBytes bytes → whole_element_at tag bytes ≡ Ok contents
    → IsWhole bytes tag contents
unfolding whole_element_at
whole_takes tag bytes contents fits e =
    let a = bind_ok (element_at tag bytes) (λ x. at_blanks x.1 x.0) contents e in
    let taken = element_takes tag bytes a.0 fits a.1 in
    let end = at_blanks_is a.0.1 a.0.0 contents a.2 in
    subst (IsWhole bytes tag) end.1 (record {
      blanks = a.0.1;
      blank = end.0;
      parts = taken.parts;
      small = taken.small;
      fits = taken.contents_fit;
    })

eight_is : (octets answer : List ℕ) → eight octets ≡ Ok answer → (octets ≡ answer) × (length answer ≡ 8)
eight_is octets answer e =
    elim (either (eqb (length octets) 8) _ _ (Ok answer) e) [
      | inl long ↦
          let is : octets ≡ answer = ok_is octets answer long.1 in
          (is, sym (ap length is) ∙ eqb-true (length octets) 8 long.0)
      | inr other ↦ absurd (no_fault Structure answer other.1)
    ]

-- ---- PBES1 and PKCS #12

salt_is : (scheme : Scheme) (octets answer : List ℕ) → salt_of scheme octets ≡ Ok answer → octets ≡ answer
salt_is Pbes1Md5 octets answer e = (eight_is octets answer e).0
salt_is Pbes1Sha1 octets answer e = (eight_is octets answer e).0
salt_is Pkcs12ThreeKeys octets answer e = ok_is octets answer e
salt_is Pkcs12TwoKeys octets answer e = ok_is octets answer e
salt_is Pbes2Sha1 octets answer e = (eight_is octets answer e).0
salt_is Pbes2Sha256 octets answer e = (eight_is octets answer e).0
salt_is DekInfoDes octets answer e = (eight_is octets answer e).0
salt_is DekInfoTripleDes octets answer e = (eight_is octets answer e).0

-- PBEParameter or pkcs-12PbeParams
pub record IsPbe (most : ℕ) (scheme : Scheme) (bytes : List ℕ) (e : Encryption) : Type 0 where
  pub parts : bytes ≡ pbe_parameter e
  pub of_scheme : e.scheme ≡ scheme
  pub salt : salt_of scheme e.salt ≡ Ok e.salt
  pub vector : e.vector ≡ replicate 8 0
  pub count : AreIterations most e.iterations

pbe_takes : (most : ℕ) (scheme : Scheme) (bytes : List ℕ) (e : Encryption) → IsBytes bytes
    → pbe_of most scheme bytes ≡ Ok e → IsPbe most scheme bytes e
unfolding pbe_of
pbe_takes most scheme bytes e fits read =
    let a = bind_ok (last_element_at 0x30 bytes) _ e read in
    let b = bind_ok (element_at 0x04 a.0) _ e a.2 in
    let d = bind_ok (salt_of scheme b.0.0) _ e b.2 in
    let n = bind_ok (iterations_at most b.0.1) _ e d.2 in
    let outer = last_takes 0x30 bytes a.0 fits a.1 in
    let salt = element_takes 0x04 a.0 b.0 outer.fits b.1 in
    let octets = salt_is scheme b.0.0 d.0 d.1 in
    let count = iterations_take most b.0.1 n.0 salt.rest_fits n.1 in
    let made : Encryption = record { scheme = scheme; salt = d.0; iterations = n.0.0; vector = replicate 8 0 } in
    let end = at_end_is n.0.1 made e n.2 in
    subst (IsPbe most scheme bytes) end.1 (record {
      parts =
          outer.parts
          ∙ ap (element 0x30) (salt.parts
          ∙ ap (λ (l : List ℕ). element 0x04 b.0.0 ++ l)
          (count.0.parts ∙ ap (λ (l : List ℕ). integer n.0.0 ++ l) end.0 ∙ append-nil (integer n.0.0))
          ∙ ap (λ (l : List ℕ). element 0x04 l ++ integer n.0.0) octets);
      of_scheme = refl;
      salt = ap (salt_of scheme) (sym octets) ∙ d.1;
      vector = refl;
      count = count.1;
    })

-- ---- PBES2

-- what was taken from the front and may have been left out
pub record IsKeyLength (bytes rest : List ℕ) : Type 0 where
  pub named : Bool
  pub parts : bytes ≡ key_length named ++ rest
  pub fits : IsBytes rest

-- the number 24
key_length-24 : key_length true ≡ element 0x02 (fewest (0 ∷ 24 ∷ []))
unfolding fewest
key_length-24 = refl

given_takes : (bytes rest : List ℕ) → IsBytes bytes → given_length bytes ≡ Ok rest → IsKeyLength bytes rest
unfolding given_length
given_takes bytes rest fits read =
    let a = bind_ok (element_at 0x02 bytes) _ rest read in
    let taken = element_takes 0x02 bytes a.0 fits a.1 in
    let d = bind_ok (digits_of a.0.0) _ rest a.2 in
    let digits = digits_take a.0.0 d.0 taken.contents_fit d.1 in
    elim (either (bytes_eq d.0 (24 ∷ [])) _ _ (Ok rest) d.2) [
      | inl same ↦ subst (IsKeyLength bytes) (ok_is a.0.1 rest same.1) (record {
        named = true;
        parts =
            taken.parts
            ∙ ap (λ (l : List ℕ). element 0x02 l ++ a.0.1) (digits.0
            ∙ ap (λ (l : List ℕ). fewest (0 ∷ l)) ((bytes_eq-Decides d.0 (24 ∷ [])).0 same.0))
            ∙ ap (λ (l : List ℕ). l ++ a.0.1) (sym key_length-24);
        fits = taken.rest_fits;
      })
      | inr other ↦ absurd (no_fault KeyLength rest other.1)
    ]

key_length_takes : (bytes rest : List ℕ) → IsBytes bytes → after_key_length bytes ≡ Ok rest → IsKeyLength bytes rest
unfolding after_key_length
key_length_takes [] rest fits read =
    subst (IsKeyLength []) (ok_is [] rest read) (record { named = false; parts = refl; fits = fits })
key_length_takes (tag ∷ others) rest fits read =
    elim (either (eqb tag 0x02) _ _ (Ok rest) read) [
      | inl given ↦ given_takes (tag ∷ others) rest fits given.1
      | inr none ↦
          subst (IsKeyLength (tag ∷ others)) (ok_is (tag ∷ others) rest none.1)
          (record { named = false; parts = refl; fits = fits })
    ]

abbrev pub IsPbes2 : Scheme → Type 0
IsPbes2 scheme = (scheme ≡ Pbes2Sha1) ⊎ (scheme ≡ Pbes2Sha256)

-- the function of PBKDF2
pub record IsPrf (bytes : List ℕ) (scheme : Scheme) : Type 0 where
  pub named : Bool
  pub parts : bytes ≡ prf scheme named
  pub pbes2 : IsPbes2 scheme

null_is : (scheme answer : Scheme) (parameters : List ℕ) → with_null scheme parameters ≡ Ok answer
    → (parameters ≡ null) × (scheme ≡ answer)
null_is scheme answer parameters read =
    elim (either (bytes_eq parameters null) (Ok scheme) (Err Structure) (Ok answer) read) [
      | inl same ↦ ((bytes_eq-Decides parameters null).0 same.0, ok_is scheme answer same.1)
      | inr other ↦ absurd (no_fault Structure answer other.1)
    ]

-- an object identifier and its parameters, as one of two
prf_named_is : (bytes oid parameters : List ℕ) (scheme : Scheme) → bytes ≡ algorithm oid parameters
    → prf_named oid parameters ≡ Ok scheme → IsPrf bytes scheme
unfolding prf_named
prf_named_is bytes oid parameters scheme parts read =
    elim (either (bytes_eq oid hmac_sha1) _ _ (Ok scheme) read) [
      | inl first ↦
          let is = null_is Pbes2Sha1 scheme parameters first.1 in
          subst (IsPrf bytes) is.1 (record {
            named = true;
            parts =
                parts
                ∙ ap (λ (l : List ℕ). algorithm l parameters) ((bytes_eq-Decides oid hmac_sha1).0 first.0)
                ∙ ap (algorithm hmac_sha1) is.0;
            pbes2 = inl refl;
          })
      | inr not ↦ elim (either (bytes_eq oid hmac_sha256) _ _ (Ok scheme) not.1) [
        | inl second ↦
            let is = null_is Pbes2Sha256 scheme parameters second.1 in
            subst (IsPrf bytes) is.1 (record {
              named = true;
              parts =
                  parts
                  ∙ ap (λ (l : List ℕ). algorithm l parameters) ((bytes_eq-Decides oid hmac_sha256).0 second.0)
                  ∙ ap (algorithm hmac_sha256) is.0;
              pbes2 = inr refl;
            })
        | inr none ↦ absurd (no_fault (Prf oid) scheme none.1)
      ]
    ]

prf_takes : (bytes : List ℕ) (scheme : Scheme) → IsBytes bytes → prf_of bytes ≡ Ok scheme → IsPrf bytes scheme
unfolding prf_of
prf_takes [] scheme fits read =
    subst (IsPrf []) (ok_is Pbes2Sha1 scheme read) (record { named = false; parts = refl; pbes2 = inl refl })
prf_takes (tag ∷ rest) scheme fits read =
    let a = bind_ok (last_element_at 0x30 (tag ∷ rest)) _ scheme read in
    let b = bind_ok (element_at 0x06 a.0) _ scheme a.2 in
    let outer = last_takes 0x30 (tag ∷ rest) a.0 fits a.1 in
    let oid = element_takes 0x06 a.0 b.0 outer.fits b.1 in
    prf_named_is (tag ∷ rest) b.0.0 b.0.1 scheme (outer.parts ∙ ap (element 0x30) oid.parts) b.2

-- PBKDF2-params
pub record IsDerivation (most : ℕ) (vector bytes : List ℕ) (e : Encryption) : Type 0 where
  pub named : Named
  pub parts : bytes ≡ pbkdf2_params named e
  pub scheme : IsPbes2 e.scheme
  pub given : e.vector ≡ vector
  pub count : AreIterations most e.iterations

derivation_takes : (most : ℕ) (vector bytes : List ℕ) (e : Encryption) → IsBytes bytes
    → derivation_of most vector bytes ≡ Ok e → IsDerivation most vector bytes e
unfolding derivation_of
derivation_takes most vector bytes e fits read =
    let a = bind_ok (last_element_at 0x30 bytes) _ e read in
    let b = bind_ok (element_at 0x04 a.0) _ e a.2 in
    let n = bind_ok (iterations_at most b.0.1) _ e b.2 in
    let k = bind_ok (after_key_length n.0.1) _ e n.2 in
    let p = bind_ok (prf_of k.0) _ e k.2 in
    let outer = last_takes 0x30 bytes a.0 fits a.1 in
    let salt = element_takes 0x04 a.0 b.0 outer.fits b.1 in
    let count = iterations_take most b.0.1 n.0 salt.rest_fits n.1 in
    let length = key_length_takes n.0.1 k.0 count.0.rest_fits k.1 in
    let function = prf_takes k.0 p.0 length.fits p.1 in
    let made : Encryption = record { scheme = p.0; salt = b.0.0; iterations = n.0.0; vector = vector } in
    subst (IsDerivation most vector bytes) (ok_is made e p.2) (record {
      named = record { key_length = length.named; prf = function.named };
      parts =
          outer.parts
          ∙ ap (element 0x30) (salt.parts
          ∙ ap (λ (l : List ℕ). element 0x04 b.0.0 ++ l) (count.0.parts
          ∙ ap (λ (l : List ℕ). integer n.0.0 ++ l) (length.parts
          ∙ ap (λ (l : List ℕ). key_length length.named ++ l) function.parts)));
      scheme = function.pbes2;
      given = refl;
      count = count.1;
    })

-- the function that derives the key
pub record IsPbkdf2 (most : ℕ) (vector bytes : List ℕ) (e : Encryption) : Type 0 where
  pub named : Named
  pub parts : bytes ≡ element 0x06 id_pbkdf2 ++ pbkdf2_params named e
  pub scheme : IsPbes2 e.scheme
  pub given : e.vector ≡ vector
  pub count : AreIterations most e.iterations

pbkdf2_takes : (most : ℕ) (bytes vector : List ℕ) (e : Encryption) → IsBytes bytes
    → pbkdf2_of most bytes vector ≡ Ok e → IsPbkdf2 most vector bytes e
unfolding pbkdf2_of
pbkdf2_takes most bytes vector e fits read =
    let a = bind_ok (element_at 0x06 bytes) _ e read in
    let oid = element_takes 0x06 bytes a.0 fits a.1 in
    elim (either (bytes_eq a.0.0 id_pbkdf2) _ _ (Ok e) a.2) [
      | inl same ↦
          let d = derivation_takes most vector a.0.1 e oid.rest_fits same.1 in
          record {
            named = d.named;
            parts =
                oid.parts
                ∙ ap (λ (l : List ℕ). element 0x06 l ++ a.0.1) ((bytes_eq-Decides a.0.0 id_pbkdf2).0 same.0)
                ∙ ap (λ (l : List ℕ). element 0x06 id_pbkdf2 ++ l) d.parts;
            scheme = d.scheme;
            given = d.given;
            count = d.count;
          }
      | inr other ↦ absurd (no_fault (KeyDerivation a.0.0) e other.1)
    ]

eight_at_takes : (bytes vector : List ℕ) → IsBytes bytes → eight_at bytes ≡ Ok vector
    → (bytes ≡ element 0x04 vector) × (length vector ≡ 8)
unfolding eight_at
eight_at_takes bytes vector fits read =
    let a = bind_ok (last_element_at 0x04 bytes) _ vector read in
    let octets = eight_is a.0 vector a.2 in
    ((last_takes 0x04 bytes a.0 fits a.1).parts ∙ ap (element 0x04) octets.0, octets.1)

vector_takes : (bytes vector : List ℕ) → IsBytes bytes → vector_at bytes ≡ Ok vector
    → (bytes ≡ algorithm des_ede3_cbc (element 0x04 vector)) × (length vector ≡ 8)
unfolding vector_at
vector_takes bytes vector fits read =
    let a = bind_ok (last_element_at 0x30 bytes) _ vector read in
    let b = bind_ok (element_at 0x06 a.0) _ vector a.2 in
    let outer = last_takes 0x30 bytes a.0 fits a.1 in
    let oid = element_takes 0x06 a.0 b.0 outer.fits b.1 in
    elim (either (bytes_eq b.0.0 des_ede3_cbc) _ _ (Ok vector) b.2) [
      | inl same ↦
          let octets = eight_at_takes b.0.1 vector oid.rest_fits same.1 in (
            outer.parts
                ∙ ap (element 0x30) (oid.parts
                ∙ ap (λ (l : List ℕ). element 0x06 l ++ b.0.1) ((bytes_eq-Decides b.0.0 des_ede3_cbc).0 same.0)
                ∙ ap (λ (l : List ℕ). element 0x06 des_ede3_cbc ++ l) octets.0),
            octets.1,
          )
      | inr other ↦ absurd (no_fault (Cipher b.0.0) vector other.1)
    ]

-- PBES2-params
pub record IsPbes2Of (most : ℕ) (bytes : List ℕ) (e : Encryption) : Type 0 where
  pub named : Named
  pub parts : bytes ≡ pbes2_params named e
  pub scheme : IsPbes2 e.scheme
  pub vector : length e.vector ≡ 8
  pub count : AreIterations most e.iterations

pbes2_takes : (most : ℕ) (bytes : List ℕ) (e : Encryption) → IsBytes bytes → pbes2_of most bytes ≡ Ok e
    → IsPbes2Of most bytes e
unfolding pbes2_of
pbes2_takes most bytes e fits read =
    let a = bind_ok (last_element_at 0x30 bytes) _ e read in
    let b = bind_ok (element_at 0x30 a.0) _ e a.2 in
    let v = bind_ok (vector_at b.0.1) _ e b.2 in
    let outer = last_takes 0x30 bytes a.0 fits a.1 in
    let front = element_takes 0x30 a.0 b.0 outer.fits b.1 in
    let vector = vector_takes b.0.1 v.0 front.rest_fits v.1 in
    let d = pbkdf2_takes most b.0.0 v.0 e front.contents_fit v.2 in
    record {
      named = d.named;
      parts =
          outer.parts
          ∙ ap (element 0x30) (front.parts
          ∙ ap (λ (l : List ℕ). element 0x30 l ++ b.0.1) d.parts
          ∙ ap (λ (l : List ℕ). algorithm id_pbkdf2 (pbkdf2_params d.named e) ++ l) (vector.0
          ∙ ap (λ (l : List ℕ). algorithm des_ede3_cbc (element 0x04 l)) (sym d.given)));
      scheme = d.scheme;
      vector = ap length d.given ∙ vector.1;
      count = d.count;
    }

-- ---- the file

-- the algorithm
pub record IsEncryption (most : ℕ) (bytes : List ℕ) (e : Encryption) : Type 0 where
  pub named : Named
  pub parts : element 0x30 bytes ≡ encryption_algorithm named e e.scheme
  pub scheme : IsInFile e.scheme e
  pub count : AreIterations most e.iterations

-- an object identifier names a scheme that derives the vector with the key
pub record NamesPbe (oid : List ℕ) (scheme : Scheme) : Type 0 where
  pub written : (named : Named) (e : Encryption) → encryption_algorithm named e scheme ≡ algorithm oid (pbe_parameter e)
  pub in_file : (e : Encryption) → salt_of scheme e.salt ≡ Ok e.salt → e.vector ≡ replicate 8 0 → IsInFile scheme e

names_md5 : NamesPbe pbe_md5_des Pbes1Md5
names_md5 = record { written = λ named e. refl; in_file = λ e salt vector. ((eight_is e.salt e.salt salt).1, vector) }

names_sha1 : NamesPbe pbe_sha1_des Pbes1Sha1
names_sha1 = record { written = λ named e. refl; in_file = λ e salt vector. ((eight_is e.salt e.salt salt).1, vector) }

names_three_keys : NamesPbe pbe_sha1_three_keys Pkcs12ThreeKeys
names_three_keys = record { written = λ named e. refl; in_file = λ e salt vector. vector }

names_two_keys : NamesPbe pbe_sha1_two_keys Pkcs12TwoKeys
names_two_keys = record { written = λ named e. refl; in_file = λ e salt vector. vector }

-- the object identifier that was found equal to one, and the scheme of that one
names_as : (oid known : List ℕ) (of_known scheme : Scheme) → bytes_eq oid known ≡ true
    → NamesPbe known of_known → of_known ≡ scheme → NamesPbe oid scheme
names_as oid known of_known scheme same names is =
    subst (NamesPbe oid) is
    (subst (λ (l : List ℕ). NamesPbe l of_known) (sym ((bytes_eq-Decides oid known).0 same)) names)

pbe_names : (oid : List ℕ) (scheme : Scheme) → pbe_named oid ≡ Ok scheme → NamesPbe oid scheme
unfolding pbe_named
pbe_names oid scheme read =
    elim (either (bytes_eq oid pbe_md5_des) _ _ (Ok scheme) read) [
      | inl md5 ↦ names_as oid pbe_md5_des Pbes1Md5 scheme md5.0 names_md5 (ok_is Pbes1Md5 scheme md5.1)
      | inr no_md5 ↦ elim (either (bytes_eq oid pbe_sha1_des) _ _ (Ok scheme) no_md5.1) [
        | inl sha1 ↦ names_as oid pbe_sha1_des Pbes1Sha1 scheme sha1.0 names_sha1 (ok_is Pbes1Sha1 scheme sha1.1)
        | inr no_sha1 ↦ elim (either (bytes_eq oid pbe_sha1_three_keys) _ _ (Ok scheme) no_sha1.1) [
          | inl three ↦
              names_as oid pbe_sha1_three_keys Pkcs12ThreeKeys scheme three.0 names_three_keys
              (ok_is Pkcs12ThreeKeys scheme three.1)
          | inr no_three ↦ elim (either (bytes_eq oid pbe_sha1_two_keys) _ _ (Ok scheme) no_three.1) [
            | inl two ↦ names_as oid pbe_sha1_two_keys Pkcs12TwoKeys scheme two.0 names_two_keys (ok_is Pkcs12TwoKeys scheme two.1)
            | inr none ↦ absurd (no_fault (Algorithm oid) scheme none.1)
          ]
        ]
      ]
    ]

-- with these it is of no account what is named
pbe_is : (most : ℕ) (oid bytes : List ℕ) (scheme : Scheme) (e : Encryption) → NamesPbe oid scheme
    → IsPbe most scheme bytes e → IsEncryption most (element 0x06 oid ++ bytes) e
pbe_is most oid bytes scheme e names p =
    let none : Named = record { key_length = false; prf = false } in
    record {
      named = none;
      parts =
          ap (λ (l : List ℕ). algorithm oid l) p.parts
          ∙ sym (ap (encryption_algorithm none e) p.of_scheme ∙ names.written none e);
      scheme = subst (λ (s : Scheme). IsInFile s e) (sym p.of_scheme) (names.in_file e p.salt p.vector);
      count = p.count;
    }

pbes2_is : (most : ℕ) (bytes : List ℕ) (e : Encryption) → IsPbes2Of most bytes e
    → IsEncryption most (element 0x06 pbes2 ++ bytes) e
pbes2_is most bytes e p =
    let parts = ap (λ (l : List ℕ). algorithm pbes2 l) p.parts in
    elim p.scheme [
      | inl sha1 ↦ record {
        named = p.named;
        parts = parts ∙ sym (ap (encryption_algorithm p.named e) sha1);
        scheme = subst (λ (s : Scheme). IsInFile s e) (sym sha1) p.vector;
        count = p.count;
      }
      | inr sha256 ↦ record {
        named = p.named;
        parts = parts ∙ sym (ap (encryption_algorithm p.named e) sha256);
        scheme = subst (λ (s : Scheme). IsInFile s e) (sym sha256) p.vector;
        count = p.count;
      }
    ]

named_takes : (most : ℕ) (oid parameters : List ℕ) (e : Encryption) → IsBytes parameters
    → encryption_named most oid parameters ≡ Ok e → IsEncryption most (element 0x06 oid ++ parameters) e
unfolding encryption_named pbe_by
named_takes most oid parameters e fits read =
    elim (either (bytes_eq oid pbes2) _ _ (Ok e) read) [
      | inl second ↦
          subst (λ (l : List ℕ). IsEncryption most (element 0x06 l ++ parameters) e)
          (sym ((bytes_eq-Decides oid pbes2).0 second.0))
          (pbes2_is most parameters e (pbes2_takes most parameters e fits second.1))
      | inr other ↦
          let s = bind_ok (pbe_named oid) _ e other.1 in
          pbe_is most oid parameters s.0 e (pbe_names oid s.0 s.1) (pbe_takes most s.0 parameters e fits s.2)
    ]

encryption_takes : (most : ℕ) (bytes : List ℕ) (e : Encryption) → IsBytes bytes → encryption_of most bytes ≡ Ok e
    → IsEncryption most bytes e
unfolding encryption_of
encryption_takes most bytes e fits read =
    let a = bind_ok (element_at 0x06 bytes) _ e read in
    let oid = element_takes 0x06 bytes a.0 fits a.1 in
    subst (λ (l : List ℕ). IsEncryption most l e) (sym oid.parts)
    (named_takes most a.0.0 a.0.1 e oid.rest_fits a.2)

-- what a file says
pub record Says (most : ℕ) (bytes : List ℕ) (said : Encryption × List ℕ) : Type 0 where
  pub named : Named
  pub blanks : List ℕ
  pub is_read : IsRead most named said.0 said.1
  pub blank : are_blanks blanks ≡ true
  pub parts : bytes ≡ key_file named said.0 said.1 ++ blanks

pub key_takes : (most : ℕ) (bytes : List ℕ) (said : Encryption × List ℕ) → IsBytes bytes
    → encrypted_key_of most bytes ≡ Ok said → Says most bytes said
unfolding encrypted_key_of
key_takes most bytes said fits read =
    let a = bind_ok (whole_element_at 0x30 bytes) _ said read in
    let b = bind_ok (element_at 0x30 a.0) _ said a.2 in
    let t = bind_ok (last_element_at 0x04 b.0.1) _ said b.2 in
    let d = bind_ok (encryption_of most b.0.0) _ said t.2 in
    let outer = whole_takes 0x30 bytes a.0 fits a.1 in
    let front = element_takes 0x30 a.0 b.0 outer.fits b.1 in
    let text = last_takes 0x04 b.0.1 t.0 front.rest_fits t.1 in
    let e = encryption_takes most b.0.0 d.0 front.contents_fit d.1 in
    let contents : a.0 ≡ key_contents e.named d.0 t.0 =
    front.parts
    ∙ ap (λ (l : List ℕ). l ++ b.0.1) e.parts
    ∙ ap (λ (l : List ℕ). encryption_algorithm e.named d.0 d.0.scheme ++ l) text.parts in
    subst (Says most bytes) (ok_is (d.0, t.0) said d.2) (record {
      named = e.named;
      blanks = outer.blanks;
      is_read = record {
        scheme = e.scheme;
        some = e.count.some;
        few = e.count.few;
        size = subst (λ (l : List ℕ). length l < 2 ^ 16) contents outer.small;
      };
      blank = outer.blank;
      parts = outer.parts ∙ ap (λ (l : List ℕ). element 0x30 l ++ outer.blanks) contents;
    })
