use Rattle.std.proofs.Common.{◌≡◌, ◌+◌, ◌-◌, ◌*◌, ◌/◌, ◌<◌, ◌∙◌, length, take, rules, arith, ap, length-take-le}
use Rattle.des_io.specs.Streams.{joined}
use Rattle.des_io.proofs.JoinedPieces.{joined_chunks}
use Rattle.des_io.proofs.SkippedBlocks.{Skips-more, EndsBefore-read}
use Rattle.des_io.proofs.part.skip_blocks.Goals as goal

pub returns-then-n-count-clause-fault : goal.returns-then-n-count-clause-fault
returns-then-n-count-clause-fault g c =
    let size : length (take c.in_ok-n.n c.fill_prefix.new.buffer) ≡ c.in_ok-n.n = length-take-le _ _ (search rules) in
    let short : 8 * (c.args.count - c.loop.left) + c.in_ok-n.n < 8 * c.args.count =
    omega (arith, c.if-n-count.true, c.next_count-count.ensures.left, c.loop.invariant.within) in
    EndsBefore-read _ _ c.loop.invariant.so_far c.in_ok-n.ensures.read (c.in_ok-n.ensures.end c.if-n-count.true) size
    short

pub loop-preserved : goal.loop-preserved
loop-preserved g c =
    let size : length (take c.in_ok-n.n c.fill_prefix.new.buffer) ≡ c.in_ok-n.n = length-take-le _ _ (search rules) in
    let counted : length c.as_chunks.result.0.now ≡ c.in_ok-n.n / 8 =
    c.as_chunks.ensures.front_len ∙ ap (λ n. n / 8) size in
    let total : c.args.count - c.loop.left + length c.as_chunks.result.0.now ≡ c.args.count
    - (c.loop.left - c.next_count-count.result) =
    omega (
      arith,
      counted,
      c.if-n-count.false,
      c.in_ok-n.ensures.within,
      c.next_count-count.ensures.left,
      c.loop.invariant.within,
    ) in
    let whole : joined c.as_chunks.result.0.now ≡ take c.in_ok-n.n c.fill_prefix.new.buffer =
    ap joined c.as_chunks.ensures.front
    ∙ joined_chunks _ (omega (arith, size, c.if-n-count.false, c.in_ok-n.ensures.within)) in
    record {
      count = search rules;
      so_far = Skips-more _ _ c.loop.invariant.so_far c.in_ok-n.ensures.read whole c.skip.ensures.blocks
          c.skip.ensures.after total;
      within = omega (arith, c.loop.invariant.within);
    }
