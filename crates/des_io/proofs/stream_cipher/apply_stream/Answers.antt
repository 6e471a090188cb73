use Rattle.std.proofs.Common.{◌≡◌, ℕ, ◌+◌, ◌≤◌, List, inl, inr, true, [], length, take, rules, refl, append-nil, arith, length-append, length-take-le}
use Rattle.std.proofs.KnownBytes.{Consumes-nil}
use Rattle.std.proofs.Math.Nat.{eq-or-lt_of_le}
use Rattle.des_io.proofs.AppliedPieces.{AppliesAll-none, AppliesAll-more, AppliesPrefix-read, AppliesPrefix-more}
use Rattle.des_io.proofs.stream_cipher.apply_stream.Goals as goal

pub loop-init : goal.loop-init
loop-init g c = record { capacity = refl; begun = c.requires.begun; within = omega arith; so_far = AppliesAll-none _ _ _ _ _ }

pub returns-in_err-n-clause-prefix : goal.returns-in_err-n-clause-prefix
returns-in_err-n-clause-prefix g c =
    let (bytes, read) = c.in_err-n.ensures.consumed in
    AppliesPrefix-read bytes c.loop.invariant.so_far read c.loop.invariant.within

pub returns-in_err-write_whole-clause-prefix : goal.returns-in_err-write_whole-clause-prefix
returns-in_err-write_whole-clause-prefix g c =
    let (k, within, written, full) = c.write_whole.ensures.written in
    let bytes : List ℕ = take c.in_ok-n.n c.fill_prefix.new.buffer in
    let long : length bytes ≡ c.in_ok-n.n = length-take-le _ _ (search rules) in
    AppliesPrefix-more bytes [] k c.loop.invariant.so_far (rw append-nil c.in_ok-n.ensures.read) c.apply_piece.ensures.became written
    (omega (arith, c.min-most.ensures, c.in_ok-n.ensures.within, long))

pub returns-then-n-capacity : goal.returns-then-n-capacity
returns-then-n-capacity g c =
    let (k, within, written, full) = c.in_ok-write_whole.ensures.written in
    let most : c.loop.count + c.in_ok-n.n ≤ c.args.limit = omega (arith, c.min-most.ensures, c.in_ok-n.ensures.within) in
    let all = AppliesAll-more _ _ _ c.in_ok-n.n k c.loop.invariant.so_far c.in_ok-n.ensures.read
    (length-take-le _ _ (search rules)) c.apply_piece.ensures.became written (full (refl {a = true})) in
    let prefix = AppliesPrefix-read [] all (Consumes-nil _) most in
    record {
      done = record {
        prefix = prefix;
        whole = (refl, refl);
        size = omega (arith, length-append all.from [], all.size);
        ends = elim (eq-or-lt_of_le c.in_ok-n.ensures.within) [
          | inl same ↦ inr (omega (arith, same, c.min-most.ensures, c.if-n-capacity.true, c.loop.invariant.within))
          | inr less ↦ inl (c.in_ok-n.ensures.end less)
        ];
      };
      prefix = prefix;
      fault = tt;
    }

pub loop-preserved : goal.loop-preserved
loop-preserved g c =
    let (k, within, written, full) = c.in_ok-write_whole.ensures.written in
    record {
      capacity = search rules;
      begun = c.apply_piece.ensures.begun;
      within = omega (arith, c.min-most.ensures, c.in_ok-n.ensures.within);
      so_far = AppliesAll-more _ _ _ c.in_ok-n.n k c.loop.invariant.so_far c.in_ok-n.ensures.read
          (length-take-le _ _ (search rules)) c.apply_piece.ensures.became written (full (refl {a = true}));
    }

pub returns-clause-prefix : goal.returns-clause-prefix
returns-clause-prefix g c = AppliesPrefix-read [] c.loop.invariant.so_far (Consumes-nil _) c.loop.invariant.within
