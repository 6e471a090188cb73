use Rattle.std.proofs.Common.{◌≡◌, length, arith}
use Rattle.des_context.proofs.MacCases.{joined-contexts}
use Rattle.des_context.proofs.macs.write_words.Goals as goal

pub returns-then-algorithm-eq3-clause-made : goal.returns-then-algorithm-eq3-clause-made
returns-then-algorithm-eq3-clause-made c =
    let three = c.if-algorithm-eq3.true in
    let words = c.requires.cipher_type.1 three in
    let size : length c.args.key.now ≡ 16 = omega (arith, c.requires.key, words) in
    let width : length c.init_for.new.context ≡ 17 =
    omega (arith, c.init_for.auto.context, c.split_at_mut-first.ensures.front_len) in
    let made = c.init_for.ensures.made (c.init_for.ensures.accepted.1
    (omega (arith, c.split_at.ensures.front_len, c.split_at_mut-first.ensures.front_len))) in
    let second_made = c.init_for-then-algorithm-eq3.ensures.made (c.init_for-then-algorithm-eq3.ensures.accepted.1
    (omega (arith, c.split_at.ensures.back_len, c.split_at_mut-first.ensures.back_len, words, size))) in
    rw three (joined-contexts c.init_for.new.context c.init_for-then-algorithm-eq3.new.context c.args.key.now width size
    (rw c.split_at.ensures.front at made) (rw c.split_at.ensures.back at second_made))
