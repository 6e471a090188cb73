use Rattle.std.proofs.lemmas.Bool.{ne_eqb}
use Rattle.des_context.proofs.macs.one_cipher_tag.Goals as goal

pub returns-then-algorithm-ne1 : goal.returns-then-algorithm-ne1
returns-then-algorithm-ne1 g c key m context is =
    let made = c.of-cipher.ensures key context in
    let by = g.met.C.ContextCipher.relates_by_length c.of-cipher.result key made in
    rw (ne_eqb c.args.algorithm 1 c.if-algorithm-ne1.true, ne_eqb c.args.algorithm 3 c.requires.one_key, ← by.encrypts)
    (c.finalize.ensures key m (c.resume.ensures key m by.is_key made (rw (← by.encrypts) at is)))

pub returns-then-message-eq2 : goal.returns-then-message-eq2
returns-then-message-eq2 g c key m context is =
    let made = c.of-cipher.ensures key context in
    let by = g.met.C.ContextCipher.relates_by_length c.of-cipher.result key made in
    rw (c.if-algorithm-ne1.false, c.if-message-eq2.true, ← by.encrypts) (c.finalize-then-message-eq2.ensures key m
    (c.resume-then-message-eq2.ensures key m by.is_key made (rw (← by.encrypts) at is)))

pub returns-else-message-eq2 : goal.returns-else-message-eq2
returns-else-message-eq2 g c key m context is =
    let made = c.of-cipher.ensures key context in
    let by = g.met.C.ContextCipher.relates_by_length c.of-cipher.result key made in
    rw (c.if-algorithm-ne1.false, ne_eqb c.args.message.now.padding 2 c.if-message-eq2.false, ← by.encrypts)
    (c.finalize-else-message-eq2.ensures key m
    (c.resume-else-message-eq2.ensures key m by.is_key made (rw (← by.encrypts) at is)))
