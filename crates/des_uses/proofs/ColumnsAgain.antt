-- What is written of the texts of a column is read as them.
use Rattle.std.proofs.Common.{true, ◌≡◌, ℕ, ℤ, ◌+◌, ◌-◌, ◌<◌, ◌≤◌, List, [], ◌∷◌, length, take, drop, map, get_or, replicate, sum, refl, ap, ap₂, sym, ◌∙◌, subst, arith, length-append, lit<}
use Rattle.std.specs.List.{All}
use Rattle.std.specs.Simd.Lanes.{zip2}
use Rattle.std.proofs.lemmas.List.{drop_at, ext_get_or, get_or-map, length-map, length-replicate, length-take, take_at}
use Rattle.std.proofs.lemmas.List.Elements.{All-append, All-cons, All-from_get_or, All-head, All-nil, All-replicate, All-tail, All-take}
use Rattle.des.specs.Blocks.{AreBytes, IsBlock, IsKey, AnswersEach}
use Rattle.des.specs.Cbc.{xor_blocks, block_at, block_before, CbcUnder, CbcDecrypts}
use Rattle.des.specs.Des.{decryption}
use Rattle.des.specs.Relations.{IsGraphOf}
use Rattle.des.specs.Triple.{EnciphersEde3}
use Rattle.des.specs.TripleCiphers.{ede3_decryption}
use Rattle.des.proofs.Graphs.{IsGraphOf-decryption}
use Rattle.des.proofs.TripleGraphs.{HasGraphs-Triple}
use Rattle.des.proofs.XoredBlocks.{xor_blocks-undone}
use Rattle.des_columns.specs.EncryptedBytes.{IsEncrypted, joined}
use Rattle.des_columns.specs.Columns.{pieces}
use Rattle.des_columns.specs.Forms.{HasVector, filled_to, part_of, status_of, text_of}
use Rattle.des_columns.specs.MysqlColumns.{Reads, Writes}
use Rattle.des_columns.specs.PgcryptoColumns.{Reads as ReadsPgcrypto, Writes as WritesPgcrypto, mode_by, relation_by, filled}
use Rattle.des_columns.specs.Readings.{IsColumnRead, IsReading}
use Rattle.des_columns.specs.Writings.{IsColumnWritten, IsTextSize, value_size}
use Rattle.des_columns.specs.declared.form.BlockMode.{BlockMode}
use Rattle.des_columns.specs.declared.form.BlockMode.TheVariants.{Ecb, Cbc}
use Rattle.des_columns.specs.declared.form.ValueForm.{ValueForm}
use Rattle.des_columns.specs.declared.form.ValueForm.TheVariants.{Mysql}
use Rattle.des_columns.specs.declared.pgcrypto.Cipher.{Cipher}
use Rattle.des_columns.specs.declared.pgcrypto.Cipher.TheVariants.{Des, DesEcb, TripleDes, TripleDesEcb}
use Rattle.des_columns.specs.declared.pgcrypto.Scheme.{Scheme}
use Rattle.des_columns.specs.declared.status.TheConstants.{OK}
use Rattle.des_columns.proofs.Pieces.{length-pieces}
use Rattle.des_columns.proofs.TextsOfValues.{mysql-read, pgcrypto-read}
use Rattle.des_columns.proofs.WrittenColumns.{length-piece, texts-sized}

-- ---- blocks are those of their bytes

blocks-same : (a b : List (List ℕ)) → All IsBlock a → All IsBlock b → joined a ≡ joined b → a ≡ b
blocks-same [] [] of_a of_b same = refl
blocks-same [] (y ∷ b) of_a of_b same =
    absurd (omega (arith, ap length same, length-append y (joined b), (All-head IsBlock y b of_b).0))
blocks-same (x ∷ a) [] of_a of_b same =
    absurd (omega (arith, ap length same, length-append x (joined a), (All-head IsBlock x a of_a).0))
blocks-same (x ∷ a) (y ∷ b) of_a of_b same =
    let x_long = (All-head IsBlock x a of_a).0 in
    let y_long = (All-head IsBlock y b of_b).0 in
    ap₂ ◌∷◌ (sym (take_at x (joined a) 8 x_long) ∙ ap (take 8) same ∙ take_at y (joined b) 8 y_long)
    (blocks-same a b (All-tail IsBlock x a of_a) (All-tail IsBlock y b of_b)
    (sym (drop_at x (joined a) 8 x_long) ∙ ap (drop 8) same ∙ drop_at y (joined b) 8 y_long))

module _ (Relates : List ℕ → List ℕ → Type 0) (back : List ℕ → List ℕ) (graph : IsGraphOf back (λ y x. Relates x y)) where
  -- ---- each block by itself

  each-are_blocks : (p q : List (List ℕ)) → AnswersEach Relates p q → All IsBlock q
  each-are_blocks [] [] related = All-nil IsBlock
  each-are_blocks [] (y ∷ q) related = absurd related
  each-are_blocks (x ∷ p) [] related = absurd related
  each-are_blocks (x ∷ p) (y ∷ q) related =
      All-cons IsBlock y q ((graph y x).0 related.0).0 (each-are_blocks p q related.1)

  each-decrypted : (p q : List (List ℕ)) → AnswersEach Relates p q → p ≡ map back q
  each-decrypted [] [] related = refl
  each-decrypted [] (y ∷ q) related = absurd related
  each-decrypted (x ∷ p) [] related = absurd related
  each-decrypted (x ∷ p) (y ∷ q) related =
      ap₂ ◌∷◌ (sym ((graph y x).0 related.0).1) (each-decrypted p q related.1)

  -- ---- CBC

  pub ciphertext-are_blocks : (iv : List ℕ) (p q : List (List ℕ)) → CbcUnder Relates iv p q → All IsBlock q
  ciphertext-are_blocks iv p q chains =
      All-from_get_or IsBlock q [] (λ i within.
      let this : i + 1 - 1 ≡ i = omega arith in
      subst (λ (n : ℕ). IsBlock (get_or q n [])) this
      ((graph _ _).0 (chains.chained (i + 1) (omega arith) (omega (arith, within, chains.count)))).0)

  ciphertext-decrypted : (iv : List ℕ) (p q : List (List ℕ)) → IsBlock iv → CbcUnder Relates iv p q → CbcDecrypts back iv q p
  ciphertext-decrypted iv p q is_iv chains = record {
    count = sym chains.count;
    cbc_decrypted = λ n from to.
        let within : n ≤ length p = omega (arith, to, chains.count) in
        let before : IsBlock (block_before iv q n) =
        All-cons IsBlock iv q is_iv (ciphertext-are_blocks iv p q chains) (n - 1) [] (omega (arith, from, to)) in
        sym (xor_blocks-undone (block_at p n) (block_before iv q n) (chains.widths n from within ∙ sym before.0))
        ∙ ap (λ (l : List ℕ). xor_blocks l (block_before iv q n))
        (sym ((graph _ _).0 (chains.chained n from within)).1);
  }

  plaintext-same : (iv : List ℕ) (p other q : List (List ℕ)) → CbcDecrypts back iv q p → CbcDecrypts back iv q other
      → p ≡ other
  plaintext-same iv p other q one two =
      ext_get_or [] p other (one.count ∙ sym two.count) (λ i within.
      let this : i + 1 - 1 ≡ i = omega arith in
      let place : i + 1 ≤ length q = omega (arith, within, one.count) in
      ap (λ (n : ℕ). get_or p n []) (sym this)
      ∙ one.cbc_decrypted (i + 1) (omega arith) place
      ∙ sym (two.cbc_decrypted (i + 1) (omega arith) place)
      ∙ ap (λ (n : ℕ). get_or other n []) this)

  -- ---- what was encrypted, and what is read

  encrypted-same : (mode : BlockMode) (plain other part : List ℕ) → HasVector mode → IsEncrypted mode Relates plain part
      → IsEncrypted mode Relates other part → plain ≡ other
  encrypted-same Ecb plain other part vector one two =
      let blocks : one.q_blocks ≡ two.q_blocks =
      blocks-same one.q_blocks two.q_blocks (each-are_blocks one.p_blocks one.q_blocks one.encrypted)
      (each-are_blocks two.p_blocks two.q_blocks two.encrypted) (one.of_q ∙ sym two.of_q) in
      sym one.of_p
      ∙ ap joined (each-decrypted one.p_blocks one.q_blocks one.encrypted
      ∙ ap (map back) blocks
      ∙ sym (each-decrypted two.p_blocks two.q_blocks two.encrypted))
      ∙ two.of_p
  encrypted-same (Cbc iv) plain other part vector one two =
      let blocks : one.q_blocks ≡ two.q_blocks =
      blocks-same one.q_blocks two.q_blocks (ciphertext-are_blocks iv one.p_blocks one.q_blocks one.encrypted)
      (ciphertext-are_blocks iv two.p_blocks two.q_blocks two.encrypted) (one.of_q ∙ sym two.of_q) in
      sym one.of_p
      ∙ ap joined (plaintext-same iv one.p_blocks two.p_blocks two.q_blocks
      (subst (λ (q : List (List ℕ)). CbcDecrypts back iv q one.p_blocks) blocks
      (ciphertext-decrypted iv one.p_blocks one.q_blocks vector one.encrypted))
      (ciphertext-decrypted iv two.p_blocks two.q_blocks vector two.encrypted))
      ∙ two.of_p

  pub reading-same : (form : ValueForm) (mode : BlockMode) (value text other : List ℕ) (status its : ℤ) → HasVector mode
      → IsReading form mode Relates value status text → IsReading form mode Relates value its other
      → (status ≡ its) × (text ≡ other)
  reading-same form mode value text other status its vector one two =
      let same : one.plain ≡ two.plain =
      encrypted-same mode one.plain two.plain (part_of form value) vector one.encrypted two.encrypted in (
        one.status_is ∙ ap (status_of form value) same ∙ sym two.status_is,
        one.text_is ∙ ap (text_of form value) same ∙ sym two.text_is,
      )

-- ---- the values of a column, by their lengths

pub pieces-joined : (values : List (List ℕ)) → pieces (map length values) (joined values) ≡ values
pieces-joined [] = refl
pieces-joined (value ∷ values) =
    ap₂ ◌∷◌ (take_at value (joined values) (length value) refl)
    (ap (pieces (map length values)) (drop_at value (joined values) (length value) refl) ∙ pieces-joined values)

-- each is as long as its text needs: `span` says how long, and `size_of` the same by what it is written of
lengths-written : (size_of span : ℕ → ℕ) (Writes : List ℕ → List ℕ → Type 0) (sources : List (List ℕ)) (lengths values : List ℕ)
    → length sources ≡ length lengths
    → ((k : ℕ) → k < length lengths → size_of (length (get_or sources k [])) ≡ span (get_or lengths k 0))
    → (column : IsColumnWritten size_of Writes sources values)
    → map length column.written ≡ map span lengths
lengths-written size_of span Writes sources lengths values many spans column =
    let count : length column.written ≡ length lengths = column.count ∙ many in
    ext_get_or 0 (map length column.written) (map span lengths)
    (length-map column.written length ∙ count ∙ sym (length-map lengths span)) (λ k within.
    let below : k < length lengths = omega (arith, within, count, length-map column.written (length {A = ℕ})) in
    get_or-map length column.written k [] 0 (omega (arith, below, count))
    ∙ column.sizes k (omega (arith, below, many))
    ∙ spans k below
    ∙ sym (get_or-map span lengths k 0 0 below))

lengths-of_pieces : (lengths bytes : List ℕ) → sum lengths ≡ length bytes → map length (pieces lengths bytes) ≡ lengths
lengths-of_pieces lengths bytes whole =
    ext_get_or 0 (map length (pieces lengths bytes)) lengths
    (length-map (pieces lengths bytes) length ∙ length-pieces lengths bytes) (λ k within.
    let below : k < length lengths =
    omega (arith, within, length-map (pieces lengths bytes) (length {A = ℕ}), length-pieces lengths bytes) in
    get_or-map length (pieces lengths bytes) k [] 0 (omega (arith, below, length-pieces lengths bytes))
    ∙ length-piece lengths bytes k below whole)

places-by_length : (values texts : List (List ℕ))
    → zip2 (λ value text. filled_to (length value) text) values texts
    ≡ zip2 (λ size text. filled_to size text) (map length values) texts
places-by_length [] texts = refl
places-by_length (value ∷ values) [] = refl
places-by_length (value ∷ values) (text ∷ texts) =
    ap (λ l. filled_to (length value) text ∷ l) (places-by_length values texts)

-- ---- the texts of a column

pub record ComeAgain (lengths bytes sizes again again_lengths : List ℕ) (statuses : List ℤ) : Type 0 where
  pub all : All (λ status. status ≡ OK) statuses
  pub lengths_are : again_lengths ≡ lengths
  pub texts_are : again ≡ joined (zip2 (λ size text. filled_to size text) sizes (pieces lengths bytes))

-- a value is read as one text
module _ (Reads : List ℕ → ℤ → List ℕ → Type 0)
    (one : (value text other : List ℕ) (status its : ℤ) → Reads value status text → Reads value its other
    → (status ≡ its) × (text ≡ other)) where
  -- so the texts of a column are those that its values are read as
  read-same : (values texts : List (List ℕ)) (again lengths : List ℕ) (statuses : List ℤ) → length texts ≡ length values
      → ((k : ℕ) → k < length values → Reads (get_or values k []) OK (get_or texts k []))
      → (column : IsColumnRead Reads values again lengths statuses)
      → (column.read ≡ texts) × All (λ status. status ≡ OK) statuses
  read-same values texts again lengths statuses count written column = (
    ext_get_or [] column.read texts (column.count ∙ sym count) (λ k within.
        let below : k < length values = omega (arith, within, column.count) in
        (one (get_or values k []) (get_or column.read k []) (get_or texts k []) _ OK (column.reads k below) (written k below)).1),
    All-from_get_or (λ status. status ≡ OK) statuses OK (λ k within.
        let below : k < length values = omega (arith, within, column.statuses_count) in
        (one (get_or values k []) (get_or column.read k []) (get_or texts k []) _ OK (column.reads k below) (written k below)).0),
  )

  -- they come again, if each value can be read as its text
  pub texts-again : (size_of span : ℕ → ℕ) (Writes : List ℕ → List ℕ → Type 0) (sources : List (List ℕ))
      (lengths bytes sizes values again again_lengths : List ℕ) (statuses : List ℤ)
      → sum lengths ≡ length bytes → length sources ≡ length lengths → sizes ≡ map span lengths
      → ((k : ℕ) → k < length lengths → size_of (length (get_or sources k [])) ≡ span (get_or lengths k 0))
      → ((k : ℕ) (value : List ℕ) → k < length lengths → length value ≡ size_of (length (get_or sources k []))
      → Writes (get_or sources k []) value → Reads value OK (get_or (pieces lengths bytes) k []))
      → IsColumnWritten size_of Writes sources values
      → IsColumnRead Reads (pieces sizes values) again again_lengths statuses
      → ComeAgain lengths bytes sizes again again_lengths statuses
  texts-again size_of span Writes sources lengths bytes sizes values again again_lengths statuses whole many sized spans law
      written column =
      let texts : List (List ℕ) = pieces lengths bytes in
      let sizes_are : map length written.written ≡ sizes =
      lengths-written size_of span Writes sources lengths values many spans written ∙ sym sized in
      let values_are : pieces sizes values ≡ written.written =
      ap₂ pieces (sym sizes_are) written.places ∙ pieces-joined written.written in
      let count : length texts ≡ length (pieces sizes values) =
      length-pieces lengths bytes ∙ sym (ap length values_are ∙ written.count ∙ many) in
      let back =
      read-same (pieces sizes values) texts again again_lengths statuses count
      (λ k below.
      let here : k < length lengths = omega (arith, below, count, length-pieces lengths bytes) in
      let source : k < length sources = omega (arith, here, many) in
      subst (λ (l : List (List ℕ)). Reads (get_or l k []) OK (get_or texts k [])) (sym values_are)
      (law k (get_or written.written k []) here (written.sizes k source) (written.writes k source)))
      column in
      record {
        all = back.1;
        lengths_are = column.lengths ∙ ap (map length) back.0 ∙ lengths-of_pieces lengths bytes whole;
        texts_are =
            column.places
            ∙ ap joined (places-by_length (pieces sizes values) column.read
            ∙ ap₂ (zip2 (λ size text. filled_to size text)) (ap (map length) values_are ∙ sizes_are) back.0);
      }

-- values of a form, under a key
form-again : (form : ValueForm) (mode : BlockMode) (Relates : List ℕ → List ℕ → Type 0) (inverse : List ℕ → List ℕ)
    (Writes : List ℕ → List ℕ → Type 0) (lengths bytes sizes values again again_lengths : List ℕ) (statuses : List ℤ)
    → IsGraphOf inverse (λ y x. Relates x y) → HasVector mode
    → ((text value : List ℕ) → IsTextSize form (length text) → length value ≡ value_size form (length text)
    → Writes text value → IsReading form mode Relates value OK text)
    → sum lengths ≡ length bytes → All (IsTextSize form) lengths → sizes ≡ map (value_size form) lengths
    → IsColumnWritten (value_size form) Writes (pieces lengths bytes) values
    → IsColumnRead (IsReading form mode Relates) (pieces sizes values) again again_lengths statuses
    → ComeAgain lengths bytes sizes again again_lengths statuses
form-again form mode Relates inverse Writes lengths bytes sizes values again again_lengths statuses graph vector law whole
    fit sized =
    texts-again (IsReading form mode Relates)
    (λ value text other status its. reading-same Relates inverse graph form mode value text other status its vector)
    (value_size form) (value_size form) Writes (pieces lengths bytes) lengths bytes sizes values again again_lengths statuses
    whole (length-pieces lengths bytes) sized (λ k below. ap (value_size form) (length-piece lengths bytes k below whole))
    (λ k value below. law (get_or (pieces lengths bytes) k []) value
    (texts-sized form lengths bytes whole fit k (omega (arith, below, length-pieces lengths bytes))))

-- ---- of MySQL

pub mysql-again : (key : List ℕ) (number : ℕ) (lengths bytes sizes values again again_lengths : List ℕ) (statuses : List ℤ)
    → IsKey 24 key → sum lengths ≡ length bytes → sizes ≡ map (value_size Mysql) lengths
    → IsColumnWritten (value_size Mysql) (Writes key number) (pieces lengths bytes) values
    → IsColumnRead (Reads key) (pieces sizes values) again again_lengths statuses
    → ComeAgain lengths bytes sizes again again_lengths statuses
mysql-again key number lengths bytes sizes values again again_lengths statuses is_key whole =
    form-again Mysql (Cbc (replicate 8 0)) (EnciphersEde3 key) (ede3_decryption key) (Writes key number) lengths bytes sizes
    values again again_lengths statuses (HasGraphs-Triple true true key is_key).decryption
    (refl, All-replicate (λ byte. byte < 256) 8 0 (lit< tt)) (λ text value fits. mysql-read key number text value) whole
    (λ k d below. tt)

-- ---- of pgcrypto

filled-bytes : (size : ℕ) (bytes : List ℕ) → AreBytes bytes → IsKey size (filled size bytes)
filled-bytes size bytes are = (
  length-append (take size bytes) (replicate (size - length bytes) 0)
      ∙ ap₂ ◌+◌ (length-take size bytes) (length-replicate (size - length bytes) 0)
      ∙ omega arith,
  All-append (λ byte. byte < 256) (take size bytes) (replicate (size - length bytes) 0)
      (All-take (λ byte. byte < 256) size bytes are)
      (All-replicate (λ byte. byte < 256) (size - length bytes) 0 (lit< tt)),
)

has-vector : (cipher : Cipher) (iv : List ℕ) → AreBytes iv → HasVector (mode_by cipher iv)
has-vector Des iv are = filled-bytes 8 iv are
has-vector DesEcb iv are = tt
has-vector TripleDes iv are = filled-bytes 8 iv are
has-vector TripleDesEcb iv are = tt

decryption_by : Cipher → List ℕ → List ℕ → List ℕ
decryption_by Des key = decryption (filled 8 key)
decryption_by DesEcb key = decryption (filled 8 key)
decryption_by TripleDes key = ede3_decryption (filled 24 key)
decryption_by TripleDesEcb key = ede3_decryption (filled 24 key)

decrypts : (cipher : Cipher) (key : List ℕ) → AreBytes key
    → IsGraphOf (decryption_by cipher key) (λ y x. relation_by cipher key x y)
unfolding decryption_by
decrypts Des key are = IsGraphOf-decryption (filled 8 key) (filled-bytes 8 key are)
decrypts DesEcb key are = IsGraphOf-decryption (filled 8 key) (filled-bytes 8 key are)
decrypts TripleDes key are = (HasGraphs-Triple true true (filled 24 key) (filled-bytes 24 key are)).decryption
decrypts TripleDesEcb key are = (HasGraphs-Triple true true (filled 24 key) (filled-bytes 24 key are)).decryption

pub pgcrypto-again : (by : Scheme) (key iv lengths bytes sizes values again again_lengths : List ℕ) (statuses : List ℤ)
    → AreBytes key → AreBytes iv → sum lengths ≡ length bytes → All (IsTextSize by.form) lengths
    → sizes ≡ map (value_size by.form) lengths
    → IsColumnWritten (value_size by.form) (WritesPgcrypto by key iv) (pieces lengths bytes) values
    → IsColumnRead (ReadsPgcrypto by key iv) (pieces sizes values) again again_lengths statuses
    → ComeAgain lengths bytes sizes again again_lengths statuses
pgcrypto-again by key iv lengths bytes sizes values again again_lengths statuses of_key of_iv =
    form-again by.form (mode_by by.cipher iv) (relation_by by.cipher key) (decryption_by by.cipher key)
    (WritesPgcrypto by key iv) lengths bytes sizes values again again_lengths statuses (decrypts by.cipher key of_key)
    (has-vector by.cipher iv of_iv) (pgcrypto-read by key iv)
