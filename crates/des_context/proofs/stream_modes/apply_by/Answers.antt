use Rattle.std.proofs.Common.{ap, ◌∙◌}
use Rattle.des_context.specs.CipherTypes.{encryption_of, relation_of}
use Rattle.des_context.proofs.RelationsByLength.{IsGraphOf-by_length}
use Rattle.des_modes.proofs.StreamsAlike.{IsStreamAt-by_key, IsBitStreamAt-by_key, InModeUnder-by_key}
use Rattle.des_context.proofs.stream_modes.apply_by.Goals as goal

pub returns-clause-bytes : goal.returns-clause-bytes
returns-clause-bytes g c number key iv p d context =
    let made = c.of-cipher.ensures key context in
    let by = g.met.C.ContextCipher.relates_by_length c.of-cipher.result key made in
    IsStreamAt-by_key (g.C.BlockCipherEncrypt.encrypted c.of-cipher.result) (encryption_of key)
    (λ block is. g.met.C.KeyedCipher.encrypts_by_key c.of-cipher.result key block by.is_key made is ∙ ap (λ f. f block) by.encrypts)
    (g.met.C.BlockCipher.encrypted_is_block c.of-cipher.result) number iv p d _ _ c.args.stream.now c.apply.new.self
    (rw c.new-cipher.ensures.cipher at c.apply.ensures.bytes number iv p d)

pub returns-clause-under : goal.returns-clause-under
returns-clause-under g c number key iv p d context is =
    let made = c.of-cipher.ensures key context in
    let by = g.met.C.ContextCipher.relates_by_length c.of-cipher.result key made in
    InModeUnder-by_key (g.C.BlockCipherEncrypt.encrypted c.of-cipher.result) (encryption_of key)
    (λ block is. g.met.C.KeyedCipher.encrypts_by_key c.of-cipher.result key block by.is_key made is ∙ ap (λ f. f block) by.encrypts)
    (g.met.C.BlockCipher.encrypted_is_block c.of-cipher.result) (relation_of key)
    (IsGraphOf-by_length by _ (g.met.C.Relating.encrypts_by_relation c.of-cipher.result key made)) number iv _ _
    c.apply.new.self (returns-clause-bytes g c number key iv p d context is)

pub returns-clause-bits : goal.returns-clause-bits
returns-clause-bits g c key iv p d context =
    let made = c.of-cipher.ensures key context in
    let by = g.met.C.ContextCipher.relates_by_length c.of-cipher.result key made in
    IsBitStreamAt-by_key (g.C.BlockCipherEncrypt.encrypted c.of-cipher.result) (encryption_of key)
    (λ block is. g.met.C.KeyedCipher.encrypts_by_key c.of-cipher.result key block by.is_key made is ∙ ap (λ f. f block) by.encrypts)
    (g.met.C.BlockCipher.encrypted_is_block c.of-cipher.result) iv p d _ _ c.args.stream.now c.apply.new.self
    (rw c.new-cipher.ensures.cipher at c.apply.ensures.bits iv p d)
