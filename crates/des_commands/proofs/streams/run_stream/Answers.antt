use Rattle.std.proofs.Common.{◌≡◌, true, inl, inr, rules, refl, ap, arith}
use Rattle.des_commands.specs.Jobs.{bytes_at_most}
use Rattle.des_commands.proofs.StreamStates.{Reaches-skipped}
use Rattle.des_commands.proofs.streams.run_stream.Goals as goal
use Rattle.des_commands.proofs.streams.run_stream.Goals.{else-count-eq0-via-then-count-eq0+else-is_some, else-count-eq0-via-else-count-eq0}

pub returns-then-is_some-clause-fault : goal.returns-then-is_some-clause-fault
returns-then-is_some-clause-fault g c =
    let most : c.extent_of-from.result.1 ≡ bytes_at_most c.in-Decrypt.part = ap (λ extent. extent.1) c.extent_of-from.ensures in
    let none : c.in_ok-count-in-Decrypt.count ≡ 0 = omega (arith, c.if-count-eq0.true) in
    rw c.in-Decrypt.is (inr (inr (
      g.R.Read.remaining c.skip_blocks-in-Decrypt.new.reader,
      c.stream_from-stream-in-Decrypt.result,
      Reaches-skipped _ _ _ c.min-vectors.result _ _ _ _ _ _ _ _ _ _ c.min-vectors.ensures
          (ap (λ extent. extent.0) c.extent_of-from.ensures) c.vector_in.ensures c.vector_in-in-Decrypt.ensures
          c.in_ok-first-in-Decrypt.ensures.skips c.in_ok-last-in-Decrypt.ensures.skips c.stream_from-stream-in-Decrypt.ensures.begins,
      inr (rw (most, none) at c.in_ok-count-in-Decrypt.ensures.done, search rules, refl),
    )))

pub returns-else-count-eq0-clause-done : goal.returns-else-count-eq0-clause-done
returns-else-count-eq0-clause-done g c =
    let most : c.extent_of-from.result.1 ≡ bytes_at_most c.in-Decrypt.part = ap (λ extent. extent.1) c.extent_of-from.ensures in
    rw c.in-Decrypt.is (
      g.R.Read.remaining c.skip_blocks-in-Decrypt.new.reader,
      c.stream_from-stream-in-Decrypt.result,
      c.in_ok-count-in-Decrypt.count,
      Reaches-skipped _ _ _ c.min-vectors.result _ _ _ _ _ _ _ _ _ _ c.min-vectors.ensures
          (ap (λ extent. extent.0) c.extent_of-from.ensures) c.vector_in.ensures c.vector_in-in-Decrypt.ensures
          c.in_ok-first-in-Decrypt.ensures.skips c.in_ok-last-in-Decrypt.ensures.skips c.stream_from-stream-in-Decrypt.ensures.begins,
      rw most at c.in_ok-count-in-Decrypt.ensures.done,
      elim c.else-count-eq0.branch [
        | else-count-eq0-via-then-count-eq0+else-is_some w ↦ inl (search rules)
        | else-count-eq0-via-else-count-eq0 w ↦ inr (search rules)
      ],
    )
