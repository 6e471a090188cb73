use Rattle.std.proofs.Common.{ap, ◌∙◌}
use Rattle.des_context.specs.CipherTypes.{decryption_of}
use Rattle.des_context.proofs.KeysOfBytes.{zipped-same}
use Rattle.des_context.proofs.each_key.decrypt_by.Goals as goal

pub returns-in-Ok-clause-decrypted : goal.returns-in-Ok-clause-decrypted
returns-in-Ok-clause-decrypted g c done =
    rw c.keys_in.ensures at c.in-Ok.ensures.ok
    ∙ zipped-same _ _ decryption_of (λ key size block. ap (λ by. by block) (g.met.C.ContextCipher.by_length key size).1)
    c.args.keys.now c.args.blocks.now
