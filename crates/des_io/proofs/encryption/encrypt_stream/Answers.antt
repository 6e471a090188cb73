use Rattle.std.proofs.Common.{◌∙◌, length, rules, refl, sym, subst, ap, take_all, length-take-le, append-nil, [], inl, inr}
use Rattle.std.specs.Io.KnownBytes.{Consumes}
use Rattle.std.proofs.KnownBytes.{Consumes-nil}
use Rattle.des_io.proofs.EncryptedPieces.{EncryptsBlocks-none, EncryptsBlocks-more, Encrypts-last, EncryptsPrefix-read, EncryptsPrefix-written, EndsInBlock-padded, unpadded-past}
use Rattle.des_io.proofs.encryption.encrypt_stream.Goals as goal

pub loop-init : goal.loop-init
loop-init g c = record { count = refl; so_far = EncryptsBlocks-none _ _ _ _ }

pub returns-in_err-n-clause-prefix : goal.returns-in_err-n-clause-prefix
returns-in_err-n-clause-prefix g c =
    let (bytes, read) = c.in_err-n.ensures.consumed in EncryptsPrefix-read bytes
    c.loop.invariant.so_far read

pub returns-then-n-ne0-clause-prefix : goal.returns-then-n-ne0-clause-prefix
returns-then-n-ne0-clause-prefix g c = EncryptsPrefix-read _ c.loop.invariant.so_far
    c.in_ok-n.ensures.read

pub returns-then-n-ne0-clause-fault : goal.returns-then-n-ne0-clause-fault
returns-then-n-ne0-clause-fault g c =
    let count = ap length (sym c.pad-n.ensures.padded) ∙ length-take-le _ _ c.pad-n.ensures.within in (
      unpadded-past _ _ _ count c.if-n-ne0.true,
      EndsInBlock-padded _ _ _ c.loop.invariant.so_far c.in_ok-n.ensures.read
          (c.in_ok-n.ensures.end c.if-n-bytes.true) count
          c.if-n-ne0.true,
    )

pub returns-in_err-encrypt_piece-clause-prefix : goal.returns-in_err-encrypt_piece-clause-prefix
returns-in_err-encrypt_piece-clause-prefix g c =
    let piece = rw c.pad-n.ensures.padded at c.in_err-encrypt_piece.ensures.enciphered in
    EncryptsPrefix-written _ [] c.loop.invariant.so_far c.in_ok-n.ensures.read piece
    (inr (c.in_ok-n.ensures.end c.if-n-bytes.true, append-nil _))

pub returns-then-n-bytes : goal.returns-then-n-bytes
returns-then-n-bytes g c =
    let piece = rw c.pad-n.ensures.padded at c.in_ok-encrypt_piece.ensures.enciphered in
    record {
      done = Encrypts-last _ refl c.loop.invariant.so_far c.in_ok-n.ensures.read piece;
      end = c.in_ok-n.ensures.end c.if-n-bytes.true;
      prefix = EncryptsPrefix-written _ [] c.loop.invariant.so_far c.in_ok-n.ensures.read piece
          (inr (c.in_ok-n.ensures.end c.if-n-bytes.true, append-nil _));
      fault = tt;
    }

pub returns-in_err-encrypt_piece-2-clause-prefix : goal.returns-in_err-encrypt_piece-2-clause-prefix
returns-in_err-encrypt_piece-2-clause-prefix g c =
    let read = subst (Consumes _ _) (take_all c.in_ok-n.n c.fill.new.buffer c.if-n-bytes.false)
    c.in_ok-n.ensures.read in
    EncryptsPrefix-written _ [] c.loop.invariant.so_far read
    c.in_err-encrypt_piece-2.ensures.enciphered (inl (append-nil _))

pub loop-preserved : goal.loop-preserved
loop-preserved g c =
    let read = subst (Consumes _ _) (take_all c.in_ok-n.n c.fill.new.buffer c.if-n-bytes.false)
    c.in_ok-n.ensures.read in
    record {
      count = search rules;
      so_far = EncryptsBlocks-more refl c.loop.invariant.so_far read
          c.in_ok-encrypt_piece-2.ensures.enciphered;
    }

pub returns-clause-prefix : goal.returns-clause-prefix
returns-clause-prefix g c = EncryptsPrefix-read [] c.loop.invariant.so_far (Consumes-nil _)
