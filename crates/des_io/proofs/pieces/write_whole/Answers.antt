use Rattle.std.proofs.Common.{◌≡◌, ℕ, ◌+◌, ◌-◌, ◌≤◌, List, ◌++◌, rules, arith, length, take, drop, sym, ap, ◌∙◌, subst}
use Rattle.std.proofs.lemmas.List.{take-take}
use Rattle.std.specs.Io.KnownBytes.{Appends}
use Rattle.std.proofs.KnownBytes.{Appends-trans, Appends-kept}
use lib.Seq.{take-add}
use Rattle.des_io.proofs.pieces.write_whole.Goals as goal
use Rattle.des_io.proofs.pieces.write_whole.Goals.{in-Ok, in-Err+else-ne}

pub loop-preserved : goal.loop-preserved
loop-preserved g c = elim c.match-write.branch [
  | in-Ok w ↦
      let at = c.loop.at in
      let bytes = c.args.bytes.now in
      let n = w.in-Ok.n in
      let pending : ℕ = length c.args.bytes.now - c.loop.at in
      let fits : n ≤ pending = search rules in
      let joined : take at bytes ++ take n (take pending (drop at bytes)) ≡ take (at + n) bytes =
      ap (λ (x : List ℕ). take at bytes ++ x) (take-take n pending (drop at bytes) fits) ∙ sym (take-add at n bytes) in
      rw w.at-is (record {
        within = omega (arith, fits);
        written = subst (Appends _ _) joined (Appends-trans _ _ _ _ _ c.loop.invariant.written w.in-Ok.ensures.bytes);
      })
  | in-Err+else-ne w ↦ rw w.at-is (record {
    within = c.loop.invariant.within;
    written = Appends-kept _ _ _ _ c.loop.invariant.written w.in-Err.ensures.bytes;
  })
]
