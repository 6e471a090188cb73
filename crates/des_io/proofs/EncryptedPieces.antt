-- A stream that is encrypted piece after piece.
use Rattle.std.proofs.Common.{◌≡◌, ◌≢◌, ◌⊎◌, inl, inr, ℕ, suc, ◌+◌, ◌*◌, ◌%◌, List, [], ◌∷◌, ◌++◌, Option, length, take, drop, refl, ap, ap₂, sym, subst, ◌∙◌, arith, append_assoc, append-nil, take-append-drop, length-append}
use Rattle.std.specs.Io.KnownBytes.{Consumes, Appends, IsAtEnd}
use Rattle.std.specs.List.{All}
use Rattle.std.proofs.KnownBytes.{Consumes-trans, Appends-trans, Consumes-nil, Appends-nil}
use Rattle.std.proofs.lemmas.Grind.{flat_map-append}
use Rattle.std.proofs.lemmas.List.Elements.{All-append, All-nil}
use Rattle.des.specs.Blocks.{IsBlock}
use Rattle.des_io.specs.CipherModes.{Enciphered, mode_after}
use Rattle.des_io.specs.PaddedBytes.{padded}
use Rattle.des_io.specs.Streams.{Passage, passage_of, joined, EnciphersPiece, Encrypts, EncryptsPrefix}
use Rattle.des_io.specs.StreamFaults.{EndsInBlock}
use Rattle.des_io.specs.declared.mode.BlockMode.{BlockMode}
use Rattle.des_io.specs.declared.padding.Padding.{Padding}
use Rattle.des_io.specs.declared.padding.Padding.TheVariants.{Pkcs7, Iso7816, Zeros, Unpadded}
use Rattle.des_io.proofs.ModesInPieces.{Enciphered-append, Enciphered-none, mode_after-append, mode_after-none}
use Rattle.des_io.proofs.PaddedLists.{padded-append, length-padded, length-zeros}

-- the bytes of two lists of blocks
pub joined-append : (a b : List (List ℕ)) → joined (a ++ b) ≡ joined a ++ joined b
joined-append a b = flat_map-append (λ block. block) a b

-- blocks have eight bytes each
pub length-joined : (blocks : List (List ℕ)) → All IsBlock blocks → length (joined blocks) ≡ 8 * length blocks
length-joined [] are = refl
length-joined (block ∷ blocks) are =
    length-append block (joined blocks)
    ∙ ap₂ ◌+◌ (are 0 [] (omega arith)).0 (length-joined blocks (λ k d within. are (suc k) d (omega arith)))
    ∙ omega arith

-- blocks p were read and q, which is p enciphered, was written; the mode goes on from them
pub record EncryptsBlocks (encryption : List ℕ → List ℕ) (mode next : BlockMode) (passage : Passage) : Type 0 where
  pub p : List (List ℕ)
  pub q : List (List ℕ)
  pub read : Consumes passage.read_from passage.read_to (joined p)
  pub blocks : All IsBlock p
  pub enciphered : Enciphered encryption mode p q
  pub after : next ≡ mode_after mode q
  pub written : Appends passage.written_from passage.written_to (joined q)

pub EncryptsBlocks-none : (encryption : List ℕ → List ℕ) (mode : BlockMode) (r u : Option (List ℕ))
    → EncryptsBlocks encryption mode mode (passage_of r r u u)
EncryptsBlocks-none encryption mode r u = record {
  p = [];
  q = [];
  read = Consumes-nil r;
  blocks = All-nil IsBlock;
  enciphered = Enciphered-none encryption mode;
  after = sym (mode_after-none mode);
  written = Appends-nil u;
}

-- one piece more
pub EncryptsBlocks-more : {encryption : List ℕ → List ℕ} {mode next last : BlockMode} {r s t u v w : Option (List ℕ)}
    {bytes : List ℕ} {Succeeds : Type 0} → Succeeds
    → EncryptsBlocks encryption mode next (passage_of r s u v) → Consumes s t bytes
    → EnciphersPiece encryption next last bytes v w Succeeds
    → EncryptsBlocks encryption mode last (passage_of r t u w)
EncryptsBlocks-more {encryption} {mode} {r} {s} {t} {u} {v} {w} succeeds so_far read piece = record {
  p = so_far.p ++ piece.p;
  q = so_far.q ++ piece.q;
  read = subst (Consumes r t) (ap (λ l. joined so_far.p ++ l) (sym piece.whole) ∙ sym (joined-append so_far.p piece.p))
      (Consumes-trans r s t _ _ so_far.read read);
  blocks = All-append IsBlock so_far.p piece.p so_far.blocks piece.blocks;
  enciphered = Enciphered-append encryption mode so_far.p so_far.q piece.p piece.q so_far.enciphered
      (rw (sym so_far.after) piece.enciphered);
  after = piece.after ∙ ap (λ m. mode_after m piece.q) so_far.after ∙ sym (mode_after-append mode so_far.q piece.q);
  written = subst (Appends u w) (ap (λ l. joined so_far.q ++ l) (piece.all succeeds)
      ∙ sym (joined-append so_far.q piece.q))
      (Appends-trans u v w _ _ so_far.written piece.written);
}

-- bytes after whole blocks, with their padding
padded-after : (padding : Padding) (p : List (List ℕ)) (bytes : List ℕ) → All IsBlock p
    → padded padding (joined p ++ bytes) ≡ joined p ++ padded padding bytes
padded-after padding p bytes are = padded-append padding (joined p) bytes (omega (arith, length-joined p are))

-- the last piece, of bytes with their padding
pub Encrypts-last : {encryption : List ℕ → List ℕ} {mode next last : BlockMode} {padding : Padding}
    {r s t u v w : Option (List ℕ)} (bytes : List ℕ) {Succeeds : Type 0} → Succeeds
    → EncryptsBlocks encryption mode next (passage_of r s u v) → Consumes s t bytes
    → EnciphersPiece encryption next last (padded padding bytes) v w Succeeds
    → Encrypts encryption mode padding (passage_of r t u w)
Encrypts-last {encryption} {mode} {padding} {r} {s} {t} {u} {v} {w} bytes succeeds so_far read piece = record {
  plain = joined so_far.p ++ bytes;
  p = so_far.p ++ piece.p;
  q = so_far.q ++ piece.q;
  read = Consumes-trans r s t _ _ so_far.read read;
  blocks = All-append IsBlock so_far.p piece.p so_far.blocks piece.blocks;
  whole = joined-append so_far.p piece.p ∙ ap (λ l. joined so_far.p ++ l) piece.whole
      ∙ sym (padded-after padding so_far.p bytes so_far.blocks);
  enciphered = Enciphered-append encryption mode so_far.p so_far.q piece.p piece.q so_far.enciphered
      (rw (sym so_far.after) piece.enciphered);
  written = subst (Appends u w) (ap (λ l. joined so_far.q ++ l) (piece.all succeeds)
      ∙ sym (joined-append so_far.q piece.q))
      (Appends-trans u v w _ _ so_far.written piece.written);
}

-- ---- prefixes

-- after bytes that were read and not written
pub EncryptsPrefix-read : {encryption : List ℕ → List ℕ} {mode next : BlockMode} {padding : Padding}
    {r s t u v : Option (List ℕ)} (bytes : List ℕ)
    → EncryptsBlocks encryption mode next (passage_of r s u v) → Consumes s t bytes
    → EncryptsPrefix encryption mode padding (passage_of r t u v)
EncryptsPrefix-read {r} {s} {t} bytes so_far read = record {
  bytes = joined so_far.p ++ bytes;
  p = so_far.p;
  q = so_far.q;
  rest = bytes;
  put = joined so_far.q;
  missing = [];
  read = Consumes-trans r s t _ _ so_far.read read;
  blocks = so_far.blocks;
  prefix = inl refl;
  enciphered = so_far.enciphered;
  begins = append-nil (joined so_far.q);
  written = so_far.written;
}

-- after a piece that was written, perhaps not the whole of it
pub EncryptsPrefix-written : {encryption : List ℕ → List ℕ} {mode next last : BlockMode} {padding : Padding}
    {r s t u v w : Option (List ℕ)} (bytes : List ℕ) {prefix : List ℕ} (rest : List ℕ) {Succeeds : Type 0}
    → EncryptsBlocks encryption mode next (passage_of r s u v) → Consumes s t bytes
    → EnciphersPiece encryption next last prefix v w Succeeds
    → (prefix ++ rest ≡ bytes) ⊎ (IsAtEnd t × (prefix ++ rest ≡ padded padding bytes))
    → EncryptsPrefix encryption mode padding (passage_of r t u w)
EncryptsPrefix-written {encryption} {mode} {padding} {r} {s} {t} {u} {v} {w} bytes {prefix} rest so_far read piece is =
    record {
      bytes = joined so_far.p ++ bytes;
      p = so_far.p ++ piece.p;
      q = so_far.q ++ piece.q;
      rest = rest;
      put = joined so_far.q ++ take piece.count (joined piece.q);
      missing = drop piece.count (joined piece.q);
      read = Consumes-trans r s t _ _ so_far.read read;
      blocks = All-append IsBlock so_far.p piece.p so_far.blocks piece.blocks;
      prefix =
          let begins : joined (so_far.p ++ piece.p) ++ rest ≡ joined so_far.p ++ (prefix ++ rest) =
          ap (λ l. l ++ rest) (joined-append so_far.p piece.p ∙ ap (λ l. joined so_far.p ++ l) piece.whole)
          ∙ append_assoc (joined so_far.p) prefix rest in
          elim is [
            | inl all ↦ inl (begins ∙ ap (λ l. joined so_far.p ++ l) all)
            | inr ends ↦ inr (
              ends.0,
              begins ∙ ap (λ l. joined so_far.p ++ l) ends.1
                  ∙ sym (padded-after padding so_far.p bytes so_far.blocks),
            )
          ];
      enciphered = Enciphered-append encryption mode so_far.p so_far.q piece.p piece.q so_far.enciphered
          (rw (sym so_far.after) piece.enciphered);
      begins = append_assoc (joined so_far.q) (take piece.count (joined piece.q)) (drop piece.count (joined piece.q))
          ∙ ap (λ l. joined so_far.q ++ l) (take-append-drop piece.count (joined piece.q))
          ∙ sym (joined-append so_far.q piece.q);
      written = Appends-trans u v w _ _ so_far.written piece.written;
    }

-- ---- the end within a block

-- bytes with their padding are not whole blocks only if there is no padding
pub unpadded-past : (padding : Padding) (bytes : List ℕ) (n : ℕ) → length (padded padding bytes) ≡ n → n % 8 ≢ 0
    → padding ≡ Unpadded
unpadded-past Unpadded bytes n count past = refl
unpadded-past Pkcs7 bytes n count past = absurd (past (omega
    (arith, sym (length-padded Pkcs7 bytes (λ e. cc)) ∙ count)))
unpadded-past Iso7816 bytes n count past = absurd (past
    (omega (arith, sym (length-padded Iso7816 bytes (λ e. cc)) ∙ count)))
unpadded-past Zeros bytes n count past = absurd (past (omega (arith, sym (length-zeros bytes) ∙ count)))

-- as many of the bytes are then past the last whole one
past-padded : (padding : Padding) (bytes : List ℕ) (n : ℕ) → length (padded padding bytes) ≡ n → n % 8 ≢ 0
    → length bytes % 8 ≡ n % 8
past-padded padding bytes n count past =
    let bare : length (padded Unpadded bytes) ≡ n = rw (unpadded-past padding bytes n count past) at count in
    ap (λ m. m % 8) (ap length (sym (append-nil bytes)) ∙ bare)

pub EndsInBlock-padded : {encryption : List ℕ → List ℕ} {mode next : BlockMode} (padding : Padding)
    {r s t u v : Option (List ℕ)} (bytes : List ℕ) (n : ℕ)
    → EncryptsBlocks encryption mode next (passage_of r s u v) → Consumes s t bytes → IsAtEnd t
    → length (padded padding bytes) ≡ n
    → n % 8 ≢ 0
    → EndsInBlock r t (n % 8)
EndsInBlock-padded padding {r} {s} {t} bytes n so_far read end count past = record {
  end = end;
  bytes = joined so_far.p ++ bytes;
  read = Consumes-trans r s t _ _ so_far.read read;
  count = omega (
    arith,
    length-append (joined so_far.p) bytes,
    length-joined so_far.p so_far.blocks,
    past-padded padding
        bytes n count past,
  );
  some = past;
}
