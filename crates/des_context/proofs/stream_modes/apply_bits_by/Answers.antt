use Rattle.std.proofs.Common.{ap, ◌∙◌}
use Rattle.des_context.specs.CipherTypes.{encryption_of}
use Rattle.des_modes.proofs.StreamsAlike.{IsBitStreamAt-by_key}
use Rattle.des_context.proofs.stream_modes.apply_bits_by.Goals as goal

pub returns-clause-bits : goal.returns-clause-bits
returns-clause-bits g c key iv p d context =
    let made = c.of-cipher.ensures key context in
    let by = g.met.C.ContextCipher.relates_by_length c.of-cipher.result key made in
    IsBitStreamAt-by_key (g.C.BlockCipherEncrypt.encrypted c.of-cipher.result) (encryption_of key)
    (λ block is. g.met.C.KeyedCipher.encrypts_by_key c.of-cipher.result key block by.is_key made is ∙ ap (λ f. f block) by.encrypts)
    (g.met.C.BlockCipher.encrypted_is_block c.of-cipher.result) iv p d _ _ c.args.stream.now c.apply_bits.new.self
    (rw c.new-cipher.ensures.cipher at c.apply_bits.ensures.bits iv p d)
