use Rattle.std.proofs.Common.{arith}
use Rattle.std.proofs.lemmas.List.{take_all}
use Rattle.des.specs.Blocks.{part}
use Rattle.des_context.proofs.ciphers.DesContextCipher.of.Goals as goal

pub from_words-requires-clause-made : goal.from_words-requires-clause-made
from_words-requires-clause-made g c =
    let made = c.requires.made.1 in
    (part 1 c.requires.made.0, made.2 1 (omega arith) (omega (arith, c.requires.cipher_type, made.1)))

pub returns : goal.returns
returns g c key made =
    rw (take_all 8 key (omega (arith, made.0.0, made.1, c.requires.cipher_type))) at
    (c.from_words.ensures (part 1 key) (made.2 1 (omega arith) (omega (arith, c.requires.cipher_type, made.1))))
