-- What was written begins what was read, deciphered.
use Rattle.std.proofs.Common.{◌≡◌, ◌≢◌, ◌⊎◌, inl, ℕ, ◌+◌, ◌*◌, ◌/◌, ◌%◌, List, [], ◌++◌, Option, length, ap, sym, subst, ◌∙◌, arith, append_assoc, append-nil, length-append}
use Rattle.std.specs.Io.KnownBytes.{Consumes, Appends, IsAtEnd}
use Rattle.std.proofs.KnownBytes.{Consumes-trans, Appends-trans}
use Rattle.std.proofs.lemmas.List.Elements.{All-append}
use Rattle.des.specs.Blocks.{IsBlock}
use Rattle.des_io.specs.CipherModes.{mode_after}
use Rattle.des_io.specs.Streams.{Passage, passage_of, stage_of, joined, bytes_of, IsWithin, IsHeldBack, DeciphersPiece, HoldsLast, DeciphersPrefix, HoldsPrefix, BeginsPlain, DecryptsPrefix, DecryptsPartPrefix}
use Rattle.des_io.specs.StreamFaults.{EndsInBlock, EndsInPart}
use Rattle.des_io.specs.declared.mode.BlockMode.{BlockMode}
use Rattle.des_io.specs.declared.padding.Padding.{Padding}
use Rattle.des_io.proofs.DecryptedPieces.{held_back, held_back-more}
use Rattle.des_io.proofs.EncryptedPieces.{joined-append, length-joined}
use Rattle.des_io.proofs.ModesInPieces.{Deciphered-append}

-- after a part of what was held back
abbrev pub DeciphersPrefix-ended : {decryption : List ℕ → List ℕ} {mode : BlockMode} {r s u v w : Option (List ℕ)}
    {pending : Option (List ℕ)} (put missing : List ℕ)
    → HoldsLast decryption mode (passage_of r s u v) pending → put ++ missing ≡ bytes_of pending → Appends v w put
    → DeciphersPrefix decryption mode (passage_of r s u w)
DeciphersPrefix-ended {r} {s} {u} {v} {w} put missing so_far is written = record {
  q = so_far.q;
  p = so_far.p;
  rest = [];
  put = so_far.put ++ put;
  missing = missing;
  read = subst (Consumes r s) (sym (append-nil (joined so_far.q))) so_far.read;
  blocks = so_far.blocks;
  deciphered = so_far.deciphered;
  begins = append_assoc so_far.put put missing ∙ ap (λ l. so_far.put ++ l) is ∙ so_far.whole;
  written = Appends-trans u v w _ _ so_far.written written;
}

-- also if more was read
abbrev pub DeciphersPrefix-more : {decryption : List ℕ → List ℕ} {mode : BlockMode} {r s t u v : Option (List ℕ)}
    (bytes : List ℕ)
    → DeciphersPrefix decryption mode (passage_of r s u v) → Consumes s t bytes
    → DeciphersPrefix decryption mode (passage_of r t u v)
DeciphersPrefix-more {r} {s} {t} bytes prefix read = record {
  q = prefix.q;
  p = prefix.p;
  rest = prefix.rest ++ bytes;
  put = prefix.put;
  missing = prefix.missing;
  read = subst (Consumes r t) (append_assoc (joined prefix.q) prefix.rest bytes)
      (Consumes-trans r s t _ _ prefix.read read);
  blocks = prefix.blocks;
  deciphered = prefix.deciphered;
  begins = prefix.begins;
  written = prefix.written;
}

-- ---- with the last block held back

-- after bytes that were read and not written
pub HoldsPrefix-read : {decryption : List ℕ → List ℕ} {mode : BlockMode} {limit : Option ℕ} {r s t u v : Option (List ℕ)}
    {pending : Option (List ℕ)} (bytes : List ℕ) → (so_far : HoldsLast decryption mode (passage_of r s u v) pending)
    → IsWithin limit (length so_far.q)
    → Consumes s t bytes
    → HoldsPrefix decryption mode limit (passage_of r t u v)
HoldsPrefix-read {r} {s} {t} {pending} bytes so_far within read = record {
  prefix = record {
    q = so_far.q;
    p = so_far.p;
    rest = bytes;
    put = so_far.put;
    missing = bytes_of pending;
    read = Consumes-trans r s t _ _ so_far.read read;
    blocks = so_far.blocks;
    deciphered = so_far.deciphered;
    begins = so_far.whole;
    written = so_far.written;
  };
  within = within;
  pending = held_back pending so_far;
}

-- after a piece that was written, perhaps not the whole of it
pub HoldsPrefix-written : {decryption : List ℕ → List ℕ} {mode next last : BlockMode} {limit : Option ℕ}
    {r s t u v w : Option (List ℕ)} {pending then : Option (List ℕ)} {bytes : List ℕ} {Succeeds : Type 0}
    → (so_far : HoldsLast decryption mode (passage_of r s u v) pending)
    → next ≡ mode_after mode so_far.q → Consumes s t bytes
    → (piece : DeciphersPiece decryption bytes (stage_of next pending v) (stage_of last then w) Succeeds)
    → IsWithin limit (length (so_far.q ++ piece.q)) → HoldsPrefix decryption mode limit (passage_of r t u w)
HoldsPrefix-written {decryption} {mode} {r} {s} {t} {u} {v} {w} {pending} so_far after read piece within =
    let new = piece.written in
    record {
      prefix = record {
        q = so_far.q ++ piece.q;
        p = so_far.p ++ piece.p;
        rest = [];
        put = so_far.put ++ new.put;
        missing = new.missing;
        read = subst (Consumes r t)
            (ap (λ l. joined so_far.q ++ l) (sym piece.whole) ∙ sym (joined-append so_far.q piece.q)
            ∙ sym (append-nil (joined (so_far.q ++ piece.q))))
            (Consumes-trans r s t _ _ so_far.read read);
        blocks = All-append IsBlock so_far.q piece.q so_far.blocks piece.blocks;
        deciphered = Deciphered-append decryption mode so_far.q so_far.p piece.q piece.p so_far.deciphered
            (rw (sym after) piece.deciphered);
        begins = append_assoc so_far.put new.put new.missing ∙ ap (λ l. so_far.put ++ l) new.begins
            ∙ sym (append_assoc so_far.put (bytes_of pending) (joined piece.p))
            ∙ ap (λ l. l ++ joined piece.p) so_far.whole
            ∙ sym (joined-append so_far.p piece.p);
        written = Appends-trans u v w _ _ so_far.written new.written;
      };
      within = within;
      pending = held_back-more so_far new;
    }

-- ---- within a limit, also at the end

-- what was written within a limit begins what was read: with the last block held back, or at the end without the
-- padding
pub record WithinPrefix (decryption : List ℕ → List ℕ) (mode : BlockMode) (padding : Padding) (limit : Option ℕ)
    (passage : Passage) : Type 0 where
  pub prefix : DeciphersPrefix decryption mode passage
  pub within : IsWithin limit (length prefix.q)
  pub pending : IsHeldBack prefix.put prefix.missing ⊎ BeginsPlain padding prefix.p prefix.rest prefix.put passage.read_to

pub WithinPrefix-pending : {decryption : List ℕ → List ℕ} {mode : BlockMode} {padding : Padding} {limit : Option ℕ}
    {passage : Passage}
    → HoldsPrefix decryption mode limit passage → WithinPrefix decryption mode padding limit passage
WithinPrefix-pending holds = record
    { prefix = holds.prefix; within = holds.within; pending = inl holds.pending }

-- of a stream
pub DecryptsPrefix-within : {decryption : List ℕ → List ℕ} {mode : BlockMode} {padding : Padding} {limit : Option ℕ}
    {passage : Passage}
    → WithinPrefix decryption mode padding limit passage → DecryptsPrefix decryption mode padding passage
DecryptsPrefix-within all = record { prefix = all.prefix; pending = all.pending }

-- of a part
pub DecryptsPartPrefix-within : {decryption : List ℕ → List ℕ} {mode : BlockMode} {padding : Padding} {limit : Option ℕ}
    {passage : Passage}
    → WithinPrefix decryption mode padding limit passage → DecryptsPartPrefix decryption mode padding limit passage
DecryptsPartPrefix-within all = record
    { prefix = all.prefix; within = all.within; pending = inl all.pending }

-- ---- the end within a block

pub EndsInPart-read : {decryption : List ℕ → List ℕ} {mode : BlockMode} (limit : Option ℕ) {r s t u v : Option (List ℕ)}
    {pending : Option (List ℕ)} (bytes : List ℕ) (n : ℕ) → (so_far : HoldsLast decryption mode (passage_of r s u v) pending)
    → Consumes s t bytes → IsAtEnd t
    → length bytes ≡ n → n % 8 ≢ 0
    → ((all : ℕ) → all ≡ 8 * length so_far.q + n → IsWithin limit (all / 8 + 1)) → EndsInPart (n % 8) limit r t
EndsInPart-read limit {r} {s} {t} bytes n so_far read end count past within =
    let total : length (joined so_far.q ++ bytes) ≡ 8 * length so_far.q + n =
    omega (arith, length-append (joined so_far.q) bytes, length-joined so_far.q so_far.blocks, count) in
    let ends : EndsInBlock r t (n % 8) = record {
      end = end;
      bytes = joined so_far.q ++ bytes;
      read = Consumes-trans r s t _ _ so_far.read read;
      count = omega (arith, total);
      some = past;
    } in
    (ends, within (length (joined so_far.q ++ bytes)) total)
