-- Blocks that are read before a part, piece after piece.
use Rattle.std.proofs.Common.{◌≡◌, ℕ, ◌+◌, ◌*◌, ◌<◌, List, ◌++◌, Option, length, ap, sym, subst, ◌∙◌, arith, length-append}
use Rattle.std.specs.Io.KnownBytes.{Consumes, IsAtEnd}
use Rattle.std.specs.List.{All}
use Rattle.std.proofs.KnownBytes.{Consumes-trans}
use Rattle.std.proofs.lemmas.List.Elements.{All-append}
use Rattle.des.specs.Blocks.{IsBlock}
use Rattle.des_io.specs.CipherModes.{mode_after}
use Rattle.des_io.specs.Streams.{joined, Skips}
use Rattle.des_io.specs.StreamFaults.{EndsBefore}
use Rattle.des_io.specs.declared.mode.BlockMode.{BlockMode}
use Rattle.des_io.proofs.EncryptedPieces.{joined-append, length-joined}
use Rattle.des_io.proofs.ModesInPieces.{mode_after-append}

-- one piece more
pub Skips-more : {mode next last : BlockMode} {m n : ℕ} {r s t : Option (List ℕ)} (bytes : List ℕ) (more : List (List ℕ))
    → Skips mode next m r s
    → Consumes s t bytes → joined more ≡ bytes → All IsBlock more → last ≡ mode_after next more → m + length more ≡ n
    → Skips mode last n r t
Skips-more {mode} {m} {r} {s} {t} bytes more so_far read whole are after size = record {
  q = so_far.q ++ more;
  read = subst (Consumes r t) (ap (λ l. joined so_far.q ++ l) (sym whole) ∙ sym (joined-append so_far.q more))
      (Consumes-trans r s t _ _ so_far.read read);
  blocks = All-append IsBlock so_far.q more so_far.blocks are;
  size = omega (arith, length-append so_far.q more, so_far.size, size);
  after = after ∙ ap (λ m. mode_after m more) so_far.after ∙ sym (mode_after-append mode so_far.q more);
}

-- the end before the part
pub EndsBefore-read : {mode next : BlockMode} {m : ℕ} (n : ℕ) {count : ℕ} {r s t : Option (List ℕ)} (bytes : List ℕ)
    → Skips mode next m r s → Consumes s t bytes
    → IsAtEnd t → length bytes ≡ n → 8 * m + n < 8 * count → EndsBefore count r t
EndsBefore-read n {r} {s} {t} bytes so_far read end size short = record {
  bytes = joined so_far.q ++ bytes;
  read = Consumes-trans r s t _ _ so_far.read read;
  end = end;
  short = omega (
    arith,
    length-append (joined so_far.q) bytes,
    length-joined so_far.q so_far.blocks,
    so_far.size,
    size,
    short,
  );
}
