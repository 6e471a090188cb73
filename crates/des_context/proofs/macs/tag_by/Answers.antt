use Rattle.std.proofs.Common.{take, drop}
use Rattle.des_context.proofs.MacCases.{one-key, two-contexts}
use Rattle.des_context.proofs.macs.tag_by.Goals as goal

pub returns-else-algorithm-eq3 : goal.returns-else-algorithm-eq3
returns-else-algorithm-eq3 g c padding key m is =
    let alone = one-key _ _ _ padding key m c.if-algorithm-eq3.false is in
    rw (← is.padded_by) (c.one_cipher_tag_by.ensures key m alone.0 alone.1)

pub of-requires-then-algorithm-eq3-clause-cipher_type : goal.of-requires-then-algorithm-eq3-clause-cipher_type
of-requires-then-algorithm-eq3-clause-cipher_type g c =
    rw c.split_at.ensures.back (two-contexts _ _ _ c.if-algorithm-eq3.true c.requires.1.1.1.made).1.2

pub of-requires-then-algorithm-eq3-clause-made : goal.of-requires-then-algorithm-eq3-clause-made
of-requires-then-algorithm-eq3-clause-made g c =
    (drop 8 c.requires.1.0, rw c.split_at.ensures.back (c.requires.1.1.1.made.second c.if-algorithm-eq3.true).1)

pub returns-then-algorithm-eq3 : goal.returns-then-algorithm-eq3
returns-then-algorithm-eq3 g c padding key m is =
    let three = c.if-algorithm-eq3.true in
    let of = two-contexts _ _ key three is.made in
    rw (three, ← is.padded_by) (c.retail_tag.ensures key m of.0.1
    (c.of.ensures (take 8 key) (rw c.split_at.ensures.front of.0.0)) of.1.1
    (c.of-then-algorithm-eq3.ensures (drop 8 key) (rw c.split_at.ensures.back of.1.0))
    (rw (three, of.0.1.0) at is.progress))
