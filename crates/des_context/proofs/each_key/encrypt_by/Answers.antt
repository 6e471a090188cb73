use Rattle.std.proofs.Common.{ap, ◌∙◌}
use Rattle.des_context.specs.CipherTypes.{encryption_of}
use Rattle.des_context.proofs.KeysOfBytes.{zipped-same}
use Rattle.des_context.proofs.each_key.encrypt_by.Goals as goal

pub returns-in-Ok-clause-encrypted : goal.returns-in-Ok-clause-encrypted
returns-in-Ok-clause-encrypted g c done =
    rw c.keys_in.ensures at c.in-Ok.ensures.ok
    ∙ zipped-same _ _ encryption_of (λ key size block. ap (λ by. by block) (g.met.C.ContextCipher.by_length key size).0)
    c.args.keys.now c.args.blocks.now
