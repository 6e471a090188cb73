-- What is written of texts as strings of Jasypt is read as them.
use Rattle.std.proofs.Common.{◌≡◌, ◌≢◌, inl, inr, ℕ, ℤ, ◌+◌, ◌*◌, ◌<◌, List, [], ◌++◌, length, take, drop, map, get_or, sum, Ok, refl, ap, sym, ◌∙◌, subst, arith, length-append}
use Rattle.std.specs.List.{All}
use Rattle.std.proofs.lemmas.List.{length-drop, take_at}
use Rattle.std.proofs.lemmas.List.Elements.{All-append, All-drop}
use Rattle.std.proofs.lemmas.Simd.{get_or-zip2, length-zip2}
use Rattle.base64.specs.Engines.{standard}
use Rattle.base64.specs.GeneralPurpose.{decode_of, encode_of}
use Rattle.base64.proofs.EngineFacts.{decode_of-encode_of}
use Rattle.des.specs.Blocks.{IsBlock, IsKey}
use Rattle.des.specs.Laws.BlockBits.{slice_index-lt}
use Rattle.des_columns.specs.Columns.{pieces}
use Rattle.des_columns.specs.Jasypt.{Encodes, IsWritten, Reads, ReadsBytes, characters_of, relation_by, salted, value_size as string_size}
use Rattle.des_columns.specs.Pbe.{derived_by, key_size}
use Rattle.des_columns.specs.Readings.{IsColumnRead}
use Rattle.des_columns.specs.Writings.{IsColumnWritten}
use Rattle.des_columns.specs.declared.form.BlockMode.TheVariants.{Cbc}
use Rattle.des_columns.specs.declared.form.ValueForm.TheVariants.{Pkcs7}
use Rattle.des_columns.specs.declared.pbe.Algorithm.{Algorithm}
use Rattle.des_columns.specs.declared.status.TheConstants.{OK}
use Rattle.des_columns.proofs.Base64Groups.{length-encoded}
use Rattle.des_columns.proofs.JasyptStrings.{jasypt-read}
use Rattle.des_columns.proofs.Pieces.{length-pieces}
use Rattle.des_columns.proofs.WrittenColumns.{length-piece}
use Rattle.des_uses.proofs.ColumnsAgain.{ComeAgain, ciphertext-are_blocks, reading-same, texts-again}
use Rattle.des_uses.proofs.DerivedKeys.{decryption_by, decrypts, derived-key, front-key, joined-key}

-- ---- a string is read as one text, and what is written of a text as it

encodes-one : (bytes other characters : List ℕ) → Encodes bytes characters → Encodes other characters → bytes ≡ other
encodes-one bytes other characters encodes too =
    let one : decode_of standard (encode_of standard bytes) ≡ Ok bytes =
    decode_of-encode_of standard bytes refl (slice_index-lt bytes encodes.0) in
    let its : decode_of standard (encode_of standard other) ≡ Ok other =
    decode_of-encode_of standard other refl (slice_index-lt other too.0) in
    let same : encode_of standard bytes ≡ encode_of standard other = sym encodes.1 ∙ too.1 in
    cc

module _ (by : Algorithm) (count : ℕ) (password : List ℕ) (some : count ≢ 0) where
  key-derived : (salt : List ℕ) → IsKey (key_size by) (take (key_size by) (derived_by by password salt count))
  key-derived salt =
      front-key (key_size by) (key_size by + 8) (derived_by by password salt count) (omega arith)
      (derived-key by password salt count some)

  vector-derived : (salt : List ℕ) → IsBlock (drop (key_size by) (derived_by by password salt count))
  vector-derived salt =
      let derived = derived-key by password salt count some in (
        omega (arith, length-drop (key_size by) (derived_by by password salt count), derived.0),
        All-drop (λ byte. byte < 256) (key_size by) (derived_by by password salt count) derived.1,
      )

  bytes-one : (bytes text other : List ℕ) (status its : ℤ) → ReadsBytes by count password bytes status text
      → ReadsBytes by count password bytes its other → (status ≡ its) × (text ≡ other)
  bytes-one bytes text other status its (inl read) (inl again) = (read.1.0 ∙ sym again.1.0, read.1.1 ∙ sym again.1.1)
  bytes-one bytes text other status its (inl read) (inr again) = absurd (omega (arith, read.0, again.0))
  bytes-one bytes text other status its (inr read) (inl again) = absurd (omega (arith, read.0, again.0))
  bytes-one bytes text other status its (inr read) (inr again) =
      let both : List ℕ = derived_by by password (take 8 bytes) count in
      reading-same (relation_by by (take (key_size by) both)) (decryption_by by (take (key_size by) both))
      (decrypts by (take (key_size by) both) (key-derived (take 8 bytes))) Pkcs7 (Cbc (drop (key_size by) both)) (drop 8 bytes)
      text other status its (vector-derived (take 8 bytes)) read.1 again.1

  reads-one : (value text other : List ℕ) (status its : ℤ) → Reads by count password value status text
      → Reads by count password value its other → (status ≡ its) × (text ≡ other)
  reads-one value text other status its (inl read) (inl again) = (read.1.0 ∙ sym again.1.0, read.1.1 ∙ sym again.1.1)
  reads-one value text other status its (inl read) (inr again) = absurd (read.0 again.0 again.1)
  reads-one value text other status its (inr read) (inl again) = absurd (again.0 read.0 read.1)
  reads-one value text other status its (inr read) (inr again) =
      let same : again.0 ≡ read.0 = encodes-one again.0 read.0 (characters_of value) again.1 read.1 in
      bytes-one read.0 text other status its read.2
      (subst (λ (bytes : List ℕ). ReadsBytes by count password bytes its other) same again.2)

  written-read : (salt text value : List ℕ) → IsBlock salt → length value ≡ string_size (length (salt ++ text))
      → IsWritten by count password (salt ++ text) value → Reads by count password value OK text
  written-read salt text value is size written =
      let front : take 8 (salt ++ text) ≡ salt = take_at salt text 8 is.0 in
      let both : List ℕ = derived_by by password (take 8 (salt ++ text)) count in
      let made = written.writes.encrypted in
      let blocks : All IsBlock made.q_blocks =
      ciphertext-are_blocks (relation_by by (take (key_size by) both)) (decryption_by by (take (key_size by) both))
      (decrypts by (take (key_size by) both) (key-derived (take 8 (salt ++ text)))) (drop (key_size by) both) made.p_blocks
      made.q_blocks made.encrypted in
      let bytes : IsKey (8 * length made.q_blocks) written.encrypted =
      subst (IsKey (8 * length made.q_blocks)) (made.of_q ∙ sym written.writes.value_is) (joined-key made.q_blocks blocks) in
      jasypt-read by count password salt text value is.0 written
      (All-append (λ byte. byte < 256) salt written.encrypted is.1 bytes.1)
      (omega (
        arith,
        size,
        bytes.0,
        is.0,
        ap length front,
        ap length written.value_is,
        length-encoded (take 8 (salt ++ text) ++ written.encrypted),
        length-append (take 8 (salt ++ text)) written.encrypted,
        length-append salt text,
      ))

pub jasypt-again : (by : Algorithm) (count : ℕ) (password : List ℕ) (salts : List (List ℕ))
    (lengths bytes sizes values again again_lengths : List ℕ) (statuses : List ℤ) → count ≢ 0 → All IsBlock salts
    → length salts ≡ length lengths → sum lengths ≡ length bytes → sizes ≡ map (λ size. string_size (8 + size)) lengths
    → IsColumnWritten string_size (IsWritten by count password) (salted salts (pieces lengths bytes)) values
    → IsColumnRead (Reads by count password) (pieces sizes values) again again_lengths statuses
    → ComeAgain lengths bytes sizes again again_lengths statuses
jasypt-again by count password salts lengths bytes sizes values again again_lengths statuses some are_salts many whole sized =
    let texts : List (List ℕ) = pieces lengths bytes in
    let as_many : length texts ≡ length lengths = length-pieces lengths bytes in
    let source : (k : ℕ) → k < length lengths → get_or (salted salts texts) k [] ≡ get_or salts k [] ++ get_or texts k [] =
    λ k below. get_or-zip2 ◌++◌ salts texts k [] [] [] (omega (arith, below, many)) (omega (arith, below, as_many)) in
    let salt : (k : ℕ) → k < length lengths → IsBlock (get_or salts k []) =
    λ k below. are_salts k [] (omega (arith, below, many)) in
    texts-again (Reads by count password) (reads-one by count password some) string_size (λ size. string_size (8 + size))
    (IsWritten by count password) (salted salts texts) lengths bytes sizes values again again_lengths statuses whole
    (length-zip2 ◌++◌ salts texts (many ∙ sym as_many) ∙ many) sized
    (λ k below.
    let long : length (get_or (salted salts texts) k []) ≡ 8 + get_or lengths k 0 =
    omega (
      arith,
      ap length (source k below),
      length-append (get_or salts k []) (get_or texts k []),
      (salt k below).0,
      length-piece lengths bytes k below whole,
    ) in
    ap string_size long)
    (λ k value below size writes.
    written-read by count password some (get_or salts k []) (get_or texts k []) value (salt k below)
    (size ∙ ap (λ (l : List ℕ). string_size (length l)) (source k below))
    (subst (λ (l : List ℕ). IsWritten by count password l value) (source k below) writes))
