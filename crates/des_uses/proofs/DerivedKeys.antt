-- What an algorithm derives of a password and a salt are a key and a vector, and what the key encrypts is decrypted by it.
use Rattle.std.proofs.Common.{true, false, ◌≡◌, ◌≢◌, ℕ, zero, suc, ◌+◌, ◌-◌, ◌*◌, ◌/◌, ◌<◌, ◌≤◌, List, [], ◌∷◌, ◌++◌, length, take, get_or, replicate, refl, sym, subst, arith, length-append}
use Rattle.std.specs.Int.{byte_at, bytes_low_first, to_be_bytes, to_le_bytes, w32}
use Rattle.std.specs.List.{All}
use Rattle.std.proofs.lemmas.List.{length-take-le}
use Rattle.std.proofs.lemmas.List.Elements.{All-append, All-cons, All-head, All-nil, All-tail, All-take}
use Rattle.md5.specs.Md5.{digest_bytes, md5}
use Rattle.sha1.specs.Sha1.{digest_bytes as digest_bytes_1, sha1}
use Rattle.des.specs.Blocks.{AreBytes, IsBlock, IsKey}
use Rattle.des.specs.Des.{decryption}
use Rattle.des.specs.Relations.{IsGraphOf}
use Rattle.des.specs.TripleCiphers.{ede2_decryption, ede3_decryption}
use Rattle.des.specs.Laws.BlockBits.{AreBytes-bytes_high_first}
use Rattle.des.proofs.Graphs.{IsGraphOf-decryption}
use Rattle.des.proofs.TripleGraphs.{HasGraphs-Triple}
use Rattle.des_fast.proofs.PlacedBytes.{byte_at-is}
use Rattle.des_passwords.specs.BytesToKey.{repeated}
use Rattle.des_passwords.specs.Pkcs12.{a_of, digests, pkcs12}
use Rattle.des_passwords.proofs.DerivedDigests.{one_digest, second_of, two_digests}
use Rattle.des_columns.specs.EncryptedBytes.{joined}
use Rattle.des_columns.specs.JavaTripleDes.{digested, first_half, second_half}
use Rattle.des_columns.specs.Jasypt.{relation_by}
use Rattle.des_columns.specs.Pbe.{derived_by, key_size}
use Rattle.des_columns.specs.declared.pbe.Algorithm.{Algorithm}
use Rattle.des_columns.specs.declared.pbe.Algorithm.TheVariants.{Md5Des, Sha1Des, Md5TripleDes, Sha1TripleDes, Sha1TwoKeys}

-- ---- so many bytes, at the front of others or one after another

pub front-key : (n size : ℕ) (bytes : List ℕ) → n ≤ size → IsKey size bytes → IsKey n (take n bytes)
front-key n size bytes within is =
    (length-take-le n bytes (omega (arith, within, is.0)), All-take (λ byte. byte < 256) n bytes is.1)

both-key : (m n : ℕ) (xs ys : List ℕ) → IsKey m xs → IsKey n ys → IsKey (m + n) (xs ++ ys)
both-key m n xs ys front behind = (
  omega (arith, length-append xs ys, front.0, behind.0),
  All-append (λ byte. byte < 256) xs ys front.1 behind.1,
)

pub joined-key : (blocks : List (List ℕ)) → All IsBlock blocks → IsKey (8 * length blocks) (joined blocks)
joined-key [] are = (refl, All-nil (λ byte. byte < 256))
joined-key (block ∷ blocks) are =
    let more : 8 + 8 * length blocks ≡ 8 * length (block ∷ blocks) = omega arith in
    subst (λ (n : ℕ). IsKey n (joined (block ∷ blocks))) more
    (both-key 8 (8 * length blocks) block (joined blocks) (All-head IsBlock block blocks are)
    (joined-key blocks (All-tail IsBlock block blocks are)))

-- ---- digests are bytes

low-bytes : (i k n : ℕ) → AreBytes (bytes_low_first i k n)
low-bytes i zero n = All-nil (λ byte. byte < 256)
low-bytes i (suc k) n =
    All-cons (λ byte. byte < 256) (byte_at i n) (bytes_low_first (suc i) k n) (rw (byte_at-is i n) (omega arith))
    (low-bytes (suc i) k n)

words-md5 : (h : List ℕ) (n : ℕ) → IsKey (n * 4) (digest_bytes h n)
unfolding digest_bytes
words-md5 h zero = (refl, All-nil (λ byte. byte < 256))
words-md5 h (suc n) =
    let more : n * 4 + 4 ≡ suc n * 4 = omega arith in
    subst (λ (size : ℕ). IsKey size (digest_bytes h (suc n))) more
    (both-key (n * 4) 4 (digest_bytes h n) (to_le_bytes w32 (get_or h n 0)) (words-md5 h n) (refl, low-bytes 0 4 (get_or h n 0)))

key-md5 : (m : List ℕ) → IsKey 16 (md5 m)
unfolding md5
key-md5 m = words-md5 _ 4

words-sha1 : (h : List ℕ) (n : ℕ) → IsKey (n * 4) (digest_bytes_1 h n)
unfolding digest_bytes_1
words-sha1 h zero = (refl, All-nil (λ byte. byte < 256))
words-sha1 h (suc n) =
    let more : n * 4 + 4 ≡ suc n * 4 = omega arith in
    subst (λ (size : ℕ). IsKey size (digest_bytes_1 h (suc n))) more
    (both-key (n * 4) 4 (digest_bytes_1 h n) (to_be_bytes w32 (get_or h n 0)) (words-sha1 h n)
    (refl, AreBytes-bytes_high_first 4 (get_or h n 0)))

key-sha1 : (m : List ℕ) → IsKey 20 (sha1 m)
unfolding sha1
key-sha1 m = words-sha1 _ 5

-- ---- so is what is derived

key-digested : (count : ℕ) (password half : List ℕ) → count ≢ 0 → IsKey 16 (digested count password half)
unfolding digested
key-digested zero password half some = absurd (some refl)
key-digested (suc count) password half some = key-md5 (digested count password half ++ password)

module _ (hash : List ℕ → List ℕ) (size : ℕ) (is_digest : (m : List ℕ) → IsKey size (hash m)) where
  key-repeated : (count : ℕ) (m : List ℕ) → count ≢ 0 → IsKey size (repeated hash count m)
  unfolding repeated
  key-repeated zero m some = absurd (some refl)
  key-repeated (suc count) m some = is_digest (repeated hash count m)

  key-one : (id count n : ℕ) (i : List ℕ) → count ≢ 0 → 0 < size → n ≤ size
      → IsKey n (take n (digests hash id count i ((n + (size - 1)) / size)))
  key-one id count n i some much few =
      let a : IsKey size (a_of hash id count i) = key-repeated count (replicate 64 id ++ i) some in
      subst (IsKey n) (sym (one_digest hash id count i n size much few a.0)) (front-key n size (a_of hash id count i) few a)

  key-two : (id count n : ℕ) (i : List ℕ) → count ≢ 0 → size < n → n ≤ 2 * size
      → IsKey n (take n (digests hash id count i ((n + (size - 1)) / size)))
  key-two id count n i some many few =
      let a : IsKey size (a_of hash id count i) = key-repeated count (replicate 64 id ++ i) some in
      let b : IsKey size (second_of hash id count i) = key-repeated count _ some in
      let whole : size + (n - size) ≡ n = omega (arith, many) in
      subst (IsKey n) (sym (two_digests hash id count i n size many few a.0))
      (subst (λ (m : ℕ). IsKey m (a_of hash id count i ++ take (n - size) (second_of hash id count i))) whole
      (both-key size (n - size) (a_of hash id count i) (take (n - size) (second_of hash id count i)) a
      (front-key (n - size) size (second_of hash id count i) (omega (arith, few)) b)))

pub derived-key : (by : Algorithm) (password salt : List ℕ) (count : ℕ) → count ≢ 0
    → IsKey (key_size by + 8) (derived_by by password salt count)
derived-key Md5Des password salt count some =
    front-key 16 16 (repeated md5 count (password ++ salt)) (omega arith)
    (key-repeated md5 16 key-md5 count (password ++ salt) some)
derived-key Sha1Des password salt count some =
    front-key 16 20 (repeated sha1 count (password ++ salt)) (omega arith)
    (key-repeated sha1 20 key-sha1 count (password ++ salt) some)
derived-key Md5TripleDes password salt count some =
    both-key 16 16 (digested count password (first_half salt)) (digested count password (second_half salt))
    (key-digested count password (first_half salt) some) (key-digested count password (second_half salt) some)
derived-key Sha1TripleDes password salt count some =
    both-key 24 8 (pkcs12 sha1 20 1 password salt count 24) (pkcs12 sha1 20 2 password salt count 8)
    (key-two sha1 20 key-sha1 1 count 24 _ some (omega arith) (omega arith))
    (key-one sha1 20 key-sha1 2 count 8 _ some (omega arith) (omega arith))
derived-key Sha1TwoKeys password salt count some =
    both-key 16 8 (pkcs12 sha1 20 1 password salt count 16) (pkcs12 sha1 20 2 password salt count 8)
    (key-one sha1 20 key-sha1 1 count 16 _ some (omega arith) (omega arith))
    (key-one sha1 20 key-sha1 2 count 8 _ some (omega arith) (omega arith))

pub decryption_by : Algorithm → List ℕ → List ℕ → List ℕ
decryption_by Md5Des key = decryption key
decryption_by Sha1Des key = decryption key
decryption_by Sha1TwoKeys key = ede2_decryption key
decryption_by Md5TripleDes key = ede3_decryption key
decryption_by Sha1TripleDes key = ede3_decryption key

pub decrypts : (by : Algorithm) (key : List ℕ) → IsKey (key_size by) key
    → IsGraphOf (decryption_by by key) (λ y x. relation_by by key x y)
unfolding decryption_by
decrypts Md5Des key is = IsGraphOf-decryption key is
decrypts Sha1Des key is = IsGraphOf-decryption key is
decrypts Sha1TwoKeys key is = (HasGraphs-Triple false true key is).decryption
decrypts Md5TripleDes key is = (HasGraphs-Triple true true key is).decryption
decrypts Sha1TripleDes key is = (HasGraphs-Triple true true key is).decryption
