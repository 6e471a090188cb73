use Rattle.std.proofs.Common.{◌≡◌, ◌+◌, ◌<◌, ◌^◌, if◌then◌else◌, drop, nat_eq, arith}
use Rattle.std.specs.Set.{distinct_count}
use Rattle.std.proofs.lemmas.List.Elements.{All-from_get_or}
use Rattle.des.proofs.DistinctCounts.{distinct_count-drop}
use Rattle.des.proofs.des.count_distinct.Goals as goal
use Rattle.des.proofs.des.count_distinct.Goals.{then-not-contains, else-not-contains}

pub loop-i-preserved : goal.loop-i-preserved
loop-i-preserved c =
    let words = c.args.words.now in
    let i = c.loop-i.i in
    let later = distinct_count nat_eq (drop (i + 1) words) in
    let here : distinct_count nat_eq (drop i words) ≡ (if c.contains.result then 0 else 1) + later =
    distinct_count-drop words i c.contains.result (omega (arith, c.loop-i-test.true, c.told-words))
    (rw c.told-words c.contains.ensures.value) in
    elim c.if-not-contains.branch [
      | then-not-contains w ↦
          let counted : distinct_count nat_eq (drop i words) ≡ 1 + later = rw w.if-not-contains.true at here in
          record {
            within = omega (arith, w.distinct-is, c.loop-i.invariant.within);
            counted = omega (arith, w.distinct-is, counted, c.loop-i.invariant.counted);
          }
      | else-not-contains w ↦
          let counted : distinct_count nat_eq (drop i words) ≡ 0 + later = rw w.if-not-contains.false at here in
          record {
            within = omega (arith, w.distinct-is, c.loop-i.invariant.within);
            counted = omega (arith, w.distinct-is, counted, c.loop-i.invariant.counted);
          }
    ]

pub returns-clause-are_words : goal.returns-clause-are_words
returns-clause-are_words c = All-from_get_or (λ word. word < 2 ^ 64) c.args.words.now 0 (λ i within. c.fits-words i)
