-- A record more.
use Rattle.std.proofs.Common.{◌≡◌, ℕ, ◌+◌, ◌<◌, List, [], length, get_or, ap, sym, ◌∙◌, arith, subst}
use Rattle.std.proofs.Math.ListN.{set}
use Rattle.des_fast.specs.Records.{start}
use Rattle.des_fast.specs.RecordStates.{AreWritten}
use Rattle.des_fast.proofs.RecordPlaces.{end-within, start-more}
use Rattle.des_fast.proofs.WrittenRecords.{AreWritten-more, AreWritten-ended}
use Rattle.des_fast.proofs.many.records.write_lanes.Goals as goal
use Rattle.des_fast.proofs.many.records.write_lanes.Goals.{then-i-size, else-i-size}

pub bounds-blocks-start : goal.bounds-blocks-start
bounds-blocks-start c =
    omega (
      arith,
      c.records.invariant.starts,
      c.records.invariant.in_blocks,
      c.requires.whole,
      end-within c.args.sizes.now (c.args.group.from + c.records.k) (omega (arith, c.requires.within)),
    )

pub records-preserved : goal.records-preserved
records-preserved c =
    let sizes : List ℕ = c.args.sizes.now in
    let at : ℕ = c.args.group.from + c.records.k in
    let vectors : List (List ℕ) = c.args.vectors.now in
    let blocks : List (List ℕ) = c.args.blocks.now in
    let lanes : List (List ℕ) = c.args.lanes.now in
    let new_vectors : List (List ℕ) = c.records.vectors in
    let new_blocks : List (List ℕ) = c.records.blocks in
    let start_is : c.records.start ≡ start sizes at = c.records.invariant.starts in
    let there : at < length sizes = omega (arith, c.requires.within) in
    let last : at + 1 ≡ c.args.group.from + (c.records.k + 1) = omega arith in
    let next : c.records.start + get_or sizes at 0 ≡ start sizes (c.args.group.from + (c.records.k + 1)) =
    ap (λ (n : ℕ). n + get_or sizes at 0) start_is ∙ sym (start-more sizes at there) ∙ ap (start sizes) last in
    elim c.if-i-size.branch [
      | then-i-size w ↦
          let lane : List ℕ = get_or lanes c.records.k [] in
          let place : set new_blocks (c.records.start + c.args.i) lane ≡ set new_blocks (start sizes at +
          c.args.i) lane =
          ap (λ (n : ℕ). set new_blocks (n + c.args.i) lane) start_is in
          let made : AreWritten sizes c.args.group.from (c.records.k + 1) c.args.i lanes vectors blocks
          (set new_vectors at lane) (set new_blocks (start sizes at + c.args.i) lane) =
          AreWritten-more sizes c.args.group.from c.records.k c.args.i lanes vectors blocks new_vectors new_blocks there
          (c.records.invariant.in_vectors ∙ c.requires.vectors) (c.records.invariant.in_blocks ∙ c.requires.whole)
          (omega arith) c.records.invariant.written in
          record {
            starts = next;
            in_vectors = c.if-i-size.auto.vectors ∙ c.records.invariant.in_vectors;
            in_blocks = c.if-i-size.auto.blocks ∙ c.records.invariant.in_blocks;
            written =
                subst (λ (xs : List (List ℕ)). AreWritten sizes c.args.group.from (c.records.k + 1) c.args.i lanes
                vectors blocks xs c.if-i-size.blocks) (sym w.vectors-is)
                (subst (λ (xs : List (List ℕ)). AreWritten sizes c.args.group.from (c.records.k + 1) c.args.i lanes
                vectors blocks (set new_vectors at lane) xs) (sym (w.blocks-is ∙ place)) made);
          }
      | else-i-size w ↦
          let made : AreWritten sizes c.args.group.from (c.records.k + 1) c.args.i lanes vectors blocks
          new_vectors new_blocks =
          AreWritten-ended sizes c.args.group.from c.records.k c.args.i lanes vectors blocks new_vectors new_blocks
          (omega arith) c.records.invariant.written in
          record {
            starts = next;
            in_vectors = c.if-i-size.auto.vectors ∙ c.records.invariant.in_vectors;
            in_blocks = c.if-i-size.auto.blocks ∙ c.records.invariant.in_blocks;
            written =
                subst (λ (xs : List (List ℕ)). AreWritten sizes c.args.group.from (c.records.k + 1) c.args.i lanes
                vectors blocks xs c.if-i-size.blocks) (sym w.vectors-is)
                (subst (λ (xs : List (List ℕ)). AreWritten sizes c.args.group.from (c.records.k + 1) c.args.i lanes
                vectors blocks new_vectors xs) (sym w.blocks-is) made);
          }
    ]
