use Rattle.std.proofs.Common.{◌+◌, ◌-◌, ◌++◌, rules, arith, length, take, sym, ap, ◌∙◌, subst, le_refl}
use Rattle.std.proofs.lemmas.Slice.{take-put_mid_below}
use Rattle.std.specs.Io.KnownBytes.{Consumes}
use Rattle.std.proofs.KnownBytes.{Consumes-trans, Consumes-kept}
use Rattle.des_io.proofs.JoinedPieces.{take_split, slice_range-put_mid}
use borrow.Rule.Slice.PartMut.{put_mid}
use Rattle.des_io.proofs.pieces.fill.Goals as goal
use Rattle.des_io.proofs.pieces.fill.Goals.{in-Ok, in-Err+else-ne}

pub loop-preserved : goal.loop-preserved
loop-preserved g c = elim c.match-read.branch [
  | in-Ok w ↦
      let from = c.loop.at in
      let capacity = length c.loop.buffer - from in
      let within = c.loop.invariant.within in
      let part = slice_range-put_mid from capacity w.in-Ok.n c.loop.buffer c.read.new.buf within w.in-Ok.ensures.bound.0 in
      let joined = take_split from (from + w.in-Ok.n) c.loop.buffer (put_mid from capacity c.loop.buffer c.read.new.buf)
      (omega arith) (take-put_mid_below _ _ _ _ _ (le_refl _) within) in
      rw w.at-is (record {
        count = search rules;
        within = search rules;
        read = subst (Consumes _ _) (ap (λ l. take from c.loop.buffer ++ l) (sym part) ∙ joined)
            (Consumes-trans _ _ _ _ _ c.loop.invariant.read w.in-Ok.ensures.bytes.0);
      })
  | in-Err+else-ne w ↦ rw w.at-is (record {
    count = search rules;
    within = search rules;
    read = subst (Consumes _ _) (sym (take-put_mid_below _ _ _ _ _ (le_refl _) c.loop.invariant.within))
        (Consumes-kept _ _ _ _ c.loop.invariant.read w.in-Err.ensures.bytes);
  })
]
