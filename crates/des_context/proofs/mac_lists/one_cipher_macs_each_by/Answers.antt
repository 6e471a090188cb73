use Rattle.std.proofs.lemmas.Bool.{ne_eqb}
use Rattle.des_mac.specs.CbcMac.{cbc_mac}
use Rattle.des_mac.specs.Cmac.{cmac}
use Rattle.des_mac.specs.ManyMessages.{texts}
use Rattle.des_mac.specs.Padding.{padded, one_bit_after, zeros_after}
use Rattle.des_context.specs.MacAlgorithms.{mac_by}
use Rattle.des_context.proofs.KeysOfBytes.{zipped-same}
use Rattle.des_context.proofs.mac_lists.one_cipher_macs_each_by.Goals as goal

pub returns-then-algorithm-ne1-clause-tags : goal.returns-then-algorithm-ne1-clause-tags
returns-then-algorithm-ne1-clause-tags g c =
    let one = ne_eqb c.args.algorithm 1 c.if-algorithm-ne1.true in
    let three = ne_eqb c.args.algorithm 3 c.requires in
    let same = zipped-same _ (λ key. cmac (g.C.KeyedCipher.encryption key)) (mac_by c.args.algorithm c.args.padding)
    (λ key size m. rw (one, three, (g.met.C.ContextCipher.by_length key size).0)) c.args.keys.now
    (texts c.args.messages.now) in
    rw (c.keys_in-keys.ensures, same) at c.cmacs_each_by.ensures.ok

pub returns-then-padding-eq2-clause-tags : goal.returns-then-padding-eq2-clause-tags
returns-then-padding-eq2-clause-tags g c =
    let same = zipped-same _ (λ key m. cbc_mac (g.C.KeyedCipher.encryption key) (padded one_bit_after m))
    (mac_by c.args.algorithm c.args.padding)
    (λ key size m. rw (c.if-algorithm-ne1.false, c.if-padding-eq2.true, (g.met.C.ContextCipher.by_length key size).0))
    c.args.keys.now (texts c.args.messages.now) in
    rw (c.keys_in-keys.ensures, same) at c.cbc_macs_each_by.ensures.ok

pub returns-else-padding-eq2-clause-tags : goal.returns-else-padding-eq2-clause-tags
returns-else-padding-eq2-clause-tags g c =
    let two = ne_eqb c.args.padding 2 c.if-padding-eq2.false in
    let same = zipped-same _ (λ key m. cbc_mac (g.C.KeyedCipher.encryption key) (padded zeros_after m))
    (mac_by c.args.algorithm c.args.padding)
    (λ key size m. rw (c.if-algorithm-ne1.false, two, (g.met.C.ContextCipher.by_length key size).0)) c.args.keys.now
    (texts c.args.messages.now) in
    rw (c.keys_in-keys.ensures, same) at c.cbc_macs_each_by-else-padding-eq2.ensures.ok
