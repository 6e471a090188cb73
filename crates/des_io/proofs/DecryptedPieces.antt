-- A stream that is decrypted piece after piece, its last block held back.
use Rattle.std.proofs.Common.{◌≡◌, inl, inr, ℕ, ◌*◌, ◌%◌, ◌<◌, ◌≤◌, List, [], ◌∷◌, ◌++◌, Option, None, Some, length, take, drop, refl, ap, ap₂, sym, subst, ◌∙◌, arith, append_assoc, append-nil, take-append-drop, length-append, take_all, get_or}
use Rattle.std.specs.Io.KnownBytes.{Consumes, Appends}
use Rattle.std.proofs.KnownBytes.{Consumes-trans, Appends-trans, Consumes-nil, Appends-nil}
use Rattle.des_io.specs.Streams.{passage_of, stage_of, joined, bytes_of, IsBlockIfThere, IsHeldBack, WritesPiece, DeciphersPiece, HoldsLast}
use Rattle.std.proofs.lemmas.List.Elements.{All-append, All-nil}
use Rattle.std.proofs.Math.Seq.{get_or-append_seam}
use Rattle.des.specs.Blocks.{IsBlock}
use Rattle.des_io.specs.CipherModes.{mode_after}
use Rattle.des_io.specs.declared.mode.BlockMode.{BlockMode}
use Rattle.des_io.proofs.EncryptedPieces.{joined-append, length-joined}
use Rattle.des_io.proofs.ModesInPieces.{Deciphered-append, Deciphered-none, mode_after-append, mode_after-none}

-- ---- one piece

-- a block that may be there is whole
pub even_bytes : (pending : Option (List ℕ)) → IsBlockIfThere pending → length (bytes_of pending) % 8 ≡ 0
even_bytes None size = refl
even_bytes (Some block) size = ap (λ n. n % 8) size

-- blocks that end in a block of eight bytes have eight bytes at least
last_bytes : (prefix : List ℕ) (blocks before : List (List ℕ)) (last : List ℕ) → length last ≡ 8
    → blocks ≡ before ++ last ∷ []
    → 8 ≤ length (prefix ++ joined blocks)
last_bytes prefix blocks before last eight is =
    let bytes : joined blocks ≡ joined before ++ (last ++ []) = ap joined is ∙ joined-append before (last ∷ []) in
    omega (
      arith,
      length-append prefix (joined blocks),
      ap length bytes
          ∙ length-append (joined before) (last ++ []),
      length-append last [],
      eight,
    )

-- a part of the block that was held back
pub WritesPiece-pending : {pending next : Option (List ℕ)} {blocks : List (List ℕ)} (prefix : List (List ℕ)) (last : List ℕ)
    {u v : Option (List ℕ)} (k : ℕ) {Succeeds : Type 0} → (Succeeds → ⊥) → length last ≡ 8
    → blocks ≡ prefix ++ last ∷ []
    → Appends u v (take k (bytes_of pending))
    → WritesPiece pending next blocks u v Succeeds
WritesPiece-pending {pending} {blocks} prefix last k fails eight is written = record {
  put = take k (bytes_of pending);
  missing = drop k (bytes_of pending) ++ joined blocks;
  written = written;
  begins = sym (append_assoc (take k (bytes_of pending)) (drop k (bytes_of pending)) (joined blocks))
      ∙ ap (λ l. l ++ joined blocks) (take-append-drop k (bytes_of pending));
  back = inr (last_bytes (drop k (bytes_of pending)) blocks prefix last eight is);
  last = λ s. absurd (fails s);
  size = λ s. absurd (fails s);
  even = λ s. absurd (fails s);
  none = λ s. absurd (fails s);
}

-- the whole of it, and a part of the blocks but for the last one
pub WritesPiece-prefix : {pending next : Option (List ℕ)} {blocks : List (List ℕ)} (prefix : List (List ℕ)) (last : List ℕ)
    {u : Option (List ℕ)} (v : Option (List ℕ)) {w : Option (List ℕ)} (k m : ℕ) {Succeeds : Type 0} → (Succeeds → ⊥)
    → length last ≡ 8 → blocks ≡ prefix ++ last ∷ [] → k ≡ length (bytes_of pending)
    → Appends u v (take k (bytes_of pending)) → Appends v w (take m (joined prefix))
    → WritesPiece pending next blocks u w Succeeds
WritesPiece-prefix {pending} prefix last {u} v {w} k m fails eight is whole first second =
    let all : take k (bytes_of pending) ≡ bytes_of pending = take_all k (bytes_of pending) (omega (arith, whole)) in
    record {
      put = bytes_of pending ++ take m (joined prefix);
      missing = drop m (joined prefix) ++ joined (last ∷ []);
      written = subst (Appends u w) (ap (λ l. l ++ take m (joined prefix)) all) (Appends-trans u v w _ _ first second);
      begins = append_assoc (bytes_of pending) (take m (joined prefix)) (drop m (joined prefix) ++ joined (last ∷ []))
          ∙ ap (λ l. bytes_of pending ++ l) (sym (append_assoc (take m (joined prefix)) (drop m (joined prefix))
          (joined (last ∷ [])))
          ∙ ap (λ l. l ++ joined (last ∷ [])) (take-append-drop m (joined prefix))
          ∙ sym (joined-append prefix (last ∷ [])) ∙ ap joined (sym is));
      back = inr (last_bytes (drop m (joined prefix)) (last ∷ []) [] last eight refl);
      last = λ s. absurd (fails s);
      size = λ s. absurd (fails s);
      even = λ s. absurd (fails s);
      none = λ s. absurd (fails s);
    }

-- the last of blocks of eight bytes has eight
pub length-last : (blocks prefix : List (List ℕ)) (last : List ℕ) → blocks ≡ prefix ++ last ∷ []
    → ((i : ℕ) → i < length blocks → length (get_or blocks i []) ≡ 8) → length last ≡ 8
length-last blocks prefix last is sizes =
    let within : length prefix < length blocks = omega (arith, ap length is ∙ length-append prefix (last ∷ [])) in
    ap length (sym (get_or-append_seam prefix last [] [])
    ∙ ap (λ (l : List (List ℕ)). get_or l (length prefix) []) (sym is)) ∙ sizes (length prefix) within

-- all but the last block, which is then held back
pub WritesPiece-whole : {pending : Option (List ℕ)} {blocks : List (List ℕ)} (prefix : List (List ℕ)) (last : List ℕ)
    {u : Option (List ℕ)} (v : Option (List ℕ)) {w : Option (List ℕ)} (k m : ℕ) {Succeeds : Type 0} → length last ≡ 8
    → blocks ≡ prefix ++ last ∷ [] → k ≡ length (bytes_of pending)
    → Appends u v (take k (bytes_of pending))
    → m ≡ length (joined prefix) → length (joined prefix) ≡ length prefix * 8 → Appends v w (take m (joined prefix))
    → WritesPiece pending (Some last) blocks u w Succeeds
WritesPiece-whole {pending} prefix last {u} v {w} k m eight is whole first full size second =
    let all : take k (bytes_of pending) ≡ bytes_of pending = take_all k (bytes_of pending) (omega (arith, whole)) in
    let rest : take m (joined prefix) ≡ joined prefix = take_all m (joined prefix) (omega (arith, full)) in
    record {
      put = bytes_of pending ++ joined prefix;
      missing = last;
      written = subst (Appends u w) (ap₂ ◌++◌ all rest) (Appends-trans u v w _ _ first second);
      begins = append_assoc (bytes_of pending) (joined prefix) last
          ∙ ap (λ l. bytes_of pending ++ l) (ap (λ l. joined prefix ++ l) (sym (append-nil last))
          ∙ sym (joined-append prefix (last ∷ [])) ∙ ap joined (sym is));
      back = inr (omega (arith, eight));
      last = λ s. refl;
      size = λ s before. eight;
      even = λ s before. omega (arith, length-append (bytes_of pending) (joined prefix), size, even_bytes pending before);
      none = λ s e. cc;
    }

-- of no blocks nothing
pub WritesPiece-none : (pending : Option (List ℕ)) (blocks : List (List ℕ)) (u : Option (List ℕ)) (Succeeds : Type 0)
    → length blocks ≡ 0
    → WritesPiece pending pending blocks u u Succeeds
WritesPiece-none pending [] u Succeeds none = record {
  put = [];
  missing = bytes_of pending;
  written = Appends-nil u;
  begins = sym (append-nil (bytes_of pending));
  back = inl refl;
  last = λ s. refl;
  size = λ s before. before;
  even = λ s before. refl;
  none = λ s e. (e, refl);
}
WritesPiece-none pending (block ∷ blocks) u Succeeds none = absurd (omega arith)

-- ---- piece after piece

pub HoldsLast-none : (decryption : List ℕ → List ℕ) (mode : BlockMode) (r u : Option (List ℕ))
    → (all : HoldsLast decryption mode (passage_of r r u u) None) × (mode ≡ mode_after mode all.q) × (length all.q ≡ 0)
HoldsLast-none decryption mode r u = (
  record {
    q = [];
    p = [];
    put = [];
    read = Consumes-nil r;
    blocks = All-nil IsBlock;
    deciphered = Deciphered-none decryption mode;
    whole = refl;
    size = tt;
    even = refl;
    none = λ e. refl;
    written = Appends-nil u;
  },
  sym (mode_after-none mode),
  refl,
)

-- one piece more
pub HoldsLast-more : {decryption : List ℕ → List ℕ} {mode next last : BlockMode} {r s t u v w : Option (List ℕ)}
    {pending then : Option (List ℕ)} {bytes : List ℕ} {Succeeds : Type 0} → Succeeds
    → (so_far : HoldsLast decryption mode (passage_of r s u v) pending) → next ≡ mode_after mode so_far.q
    → Consumes s t bytes
    → (piece : DeciphersPiece decryption bytes (stage_of next pending v) (stage_of last then w) Succeeds)
    → (all : HoldsLast decryption mode (passage_of r t u w) then) × (last ≡ mode_after mode all.q)
    × (all.q ≡ so_far.q ++ piece.q)
HoldsLast-more {decryption} {mode} {r} {s} {t} {u} {v} {w} {pending} {then} succeeds so_far after read piece =
    let new = piece.written in (
      record {
        q = so_far.q ++ piece.q;
        p = so_far.p ++ piece.p;
        put = so_far.put ++ new.put;
        read = subst (Consumes r t) (ap (λ l. joined so_far.q ++ l) (sym piece.whole)
            ∙ sym (joined-append so_far.q piece.q))
            (Consumes-trans r s t _ _ so_far.read read);
        blocks = All-append IsBlock so_far.q piece.q so_far.blocks piece.blocks;
        deciphered = Deciphered-append decryption mode so_far.q so_far.p piece.q piece.p so_far.deciphered
            (rw (sym after) piece.deciphered);
        whole = append_assoc so_far.put new.put (bytes_of then)
            ∙ ap (λ l. so_far.put ++ l) (ap (λ l. new.put ++ l) (sym (new.last succeeds)) ∙ new.begins)
            ∙ sym (append_assoc so_far.put (bytes_of pending) (joined piece.p))
            ∙ ap (λ l. l ++ joined piece.p) so_far.whole
            ∙ sym (joined-append so_far.p piece.p);
        size = new.size succeeds so_far.size;
        even = omega (arith, length-append so_far.put new.put, so_far.even, new.even succeeds so_far.size);
        none = λ e. ap₂ ◌++◌ (so_far.none (new.none succeeds e).0) (new.none succeeds e).1;
        written = Appends-trans u v w _ _ so_far.written new.written;
      },
      piece.after ∙ ap (λ m. mode_after m piece.q) after ∙ sym (mode_after-append mode so_far.q piece.q),
      refl,
    )

-- the blocks of a piece are as many as its bytes have
pub length-piece : {decryption : List ℕ → List ℕ} {mode next : BlockMode} {bytes : List ℕ} {pending then v w : Option (List ℕ)}
    {Succeeds : Type 0} (n : ℕ) → length bytes ≡ n → (piece : DeciphersPiece decryption bytes (stage_of mode pending v)
    (stage_of next then w) Succeeds)
    → 8 * length piece.q ≡ n
length-piece n count piece = sym (length-joined piece.q piece.blocks)
    ∙ ap length piece.whole ∙ count

-- the block that was held back is missing, or there was none and nothing was written
pub held_back : {decryption : List ℕ → List ℕ} {mode : BlockMode} {r s u v : Option (List ℕ)} (pending : Option (List ℕ))
    → (so_far : HoldsLast decryption mode (passage_of r s u v) pending) → IsHeldBack so_far.put (bytes_of pending)
held_back None so_far = inl (sym (append-nil so_far.put) ∙ so_far.whole
    ∙ ap joined (so_far.none refl))
held_back (Some block) so_far = inr (omega (arith, so_far.size))

-- and after one piece more, perhaps not the whole of it
pub held_back-more : {decryption : List ℕ → List ℕ} {mode : BlockMode} {r s u v w : Option (List ℕ)}
    {pending then : Option (List ℕ)} {blocks : List (List ℕ)} {Succeeds : Type 0}
    → (so_far : HoldsLast decryption mode (passage_of r s u v) pending)
    → (new : WritesPiece pending then blocks v w Succeeds)
    → IsHeldBack (so_far.put ++ new.put) new.missing
held_back-more {pending} {blocks} so_far new = elim new.back [
  | inl none ↦ elim (held_back pending so_far) [
    | inl nothing ↦ inl (ap₂ ◌++◌ nothing none)
    | inr eight ↦
        let all : new.missing ≡ bytes_of pending ++ joined blocks = ap (λ l. l ++ new.missing) (sym none) ∙ new.begins in
        inr (omega (arith, ap length all ∙ length-append (bytes_of pending) (joined blocks), eight))
  ]
  | inr eight ↦ inr eight
]
