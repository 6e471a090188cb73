use Rattle.std.proofs.Common.{◌≡◌, ◌<◌, ◌*◌, inl, inr, [], length, take, rules, arith, refl, length-take-le}
use Rattle.std.proofs.KnownBytes.{Consumes-nil}
use Rattle.des_io.proofs.DecryptedPieces.{HoldsLast-none, HoldsLast-more, length-piece}
use Rattle.des_io.proofs.DecryptedPrefixes.{HoldsPrefix-read, HoldsPrefix-written, EndsInPart-read}
use Rattle.des_io.proofs.LimitedBlocks.{IsLeft-all, IsLeft-more, IsLeft-none, IsLeft-within, IsLeft-fits, IsLeft-begun}
use Rattle.std.proofs.Math.Nat.{eq-or-lt_of_le}
use Rattle.des_io.proofs.decryption.decrypt_blocks.Goals as goal

pub loop-init : goal.loop-init
loop-init g c =
    let none = HoldsLast-none _ _ _ _ in record {
      count = refl;
      so_far = none.0;
      left = IsLeft-all _ _
          none.2;
      after = none.1;
    }

pub returns-in_err-n-clause-prefix : goal.returns-in_err-n-clause-prefix
returns-in_err-n-clause-prefix g c =
    let (bytes, read) = c.in_err-n.ensures.consumed in
    HoldsPrefix-read bytes c.loop.invariant.so_far (IsLeft-within _ _ _ c.loop.invariant.left) read

pub returns-then-n-ne0-clause-prefix : goal.returns-then-n-ne0-clause-prefix
returns-then-n-ne0-clause-prefix g c =
    HoldsPrefix-read _ c.loop.invariant.so_far
    (IsLeft-within _ _ _ c.loop.invariant.left) c.in_ok-n.ensures.read

pub returns-then-n-ne0-clause-fault : goal.returns-then-n-ne0-clause-fault
returns-then-n-ne0-clause-fault g c =
    let below : c.in_ok-n.n < 8 * c.next_count-count.result = search rules in
    EndsInPart-read _ _ _ c.loop.invariant.so_far c.in_ok-n.ensures.read (c.in_ok-n.ensures.end below)
    (length-take-le _ _ (search rules)) c.if-n-ne0.true
    (λ all total. IsLeft-begun _ _ _ c.next_count-count.result c.in_ok-n.n all c.loop.invariant.left
    c.next_count-count.ensures.left below total)

pub returns-in_err-decrypt_piece-clause-prefix : goal.returns-in_err-decrypt_piece-clause-prefix
returns-in_err-decrypt_piece-clause-prefix g c =
    let size : length (take c.in_ok-n.n c.fill_prefix.new.buffer) ≡ c.in_ok-n.n = length-take-le _ _ (search rules) in
    let counts = length-piece c.in_ok-n.n size c.in_err-decrypt_piece.ensures.deciphered in
    HoldsPrefix-written c.loop.invariant.so_far c.loop.invariant.after
    c.in_ok-n.ensures.read
    c.in_err-decrypt_piece.ensures.deciphered
    (IsLeft-fits _ _ _ _ c.next_count-count.result c.loop.invariant.left c.next_count-count.ensures.left
    (omega (arith, counts, c.in_ok-n.ensures.within)))

pub returns-then-n-bytes : goal.returns-then-n-bytes
returns-then-n-bytes g c =
    let piece = c.in_ok-decrypt_piece.ensures.deciphered in
    let more = HoldsLast-more refl c.loop.invariant.so_far c.loop.invariant.after c.in_ok-n.ensures.read piece in
    let size : length (take c.in_ok-n.n c.fill_prefix.new.buffer) ≡ c.in_ok-n.n = length-take-le _ _ (search rules) in
    let counts = length-piece c.in_ok-n.n size piece in
    record {
      done = record {
        holds = more.0;
        ends = elim (eq-or-lt_of_le c.in_ok-n.ensures.within) [
          | inl all ↦ elim c.next_count-count.ensures.full [
            | inl capacity ↦ absurd (omega (
              arith,
              all,
              capacity,
              c.if-n-bytes.true,
              c.in_ok-n.ensures.capacity,
              c.loop.invariant.count,
              c.as_flattened_mut-bytes.ensures.len,
            ))
            | inr is ↦ inr (IsLeft-none _ _ _ _ _ c.next_count-count.result c.loop.invariant.left is
                (omega (arith, all, counts)) more.2)
          ]
          | inr less ↦ inl (c.in_ok-n.ensures.end less)
        ];
        within = IsLeft-within _ _ _
            (IsLeft-more _ _ _ _ _ _ _ c.loop.invariant.left c.left_after-left.ensures (omega (arith, counts)) more.2);
      };
      prefix = HoldsPrefix-written c.loop.invariant.so_far c.loop.invariant.after c.in_ok-n.ensures.read piece
          (IsLeft-fits _ _ _ _ c.next_count-count.result c.loop.invariant.left c.next_count-count.ensures.left
          (omega (arith, counts, c.in_ok-n.ensures.within)));
      fault = tt;
    }

pub loop-preserved : goal.loop-preserved
loop-preserved g c =
    let more = HoldsLast-more refl c.loop.invariant.so_far c.loop.invariant.after
    c.in_ok-n.ensures.read
    c.in_ok-decrypt_piece.ensures.deciphered in
    let size : length (take c.in_ok-n.n c.fill_prefix.new.buffer) ≡ c.in_ok-n.n = length-take-le _ _ (search rules) in
    let counts = length-piece c.in_ok-n.n size c.in_ok-decrypt_piece.ensures.deciphered in
    record {
      count = search rules;
      so_far = more.0;
      left = IsLeft-more _ _ _ _ _ _ _ c.loop.invariant.left c.left_after-left.ensures (omega (arith, counts)) more.2;
      after = more.1;
    }

pub returns-clause-prefix : goal.returns-clause-prefix
returns-clause-prefix g c =
    HoldsPrefix-read [] c.loop.invariant.so_far (IsLeft-within _ _ _ c.loop.invariant.left)
    (Consumes-nil _)
