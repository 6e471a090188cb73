use Rattle.std.proofs.Common.{arith}
use Rattle.des.specs.Blocks.{part}
use Rattle.des_context.proofs.ciphers.Ede3DesContextCipher.of.Goals as goal

pub from_words-requires-clause-made : goal.from_words-requires-clause-made
from_words-requires-clause-made g c =
    let made = c.requires.made.1 in
    (part 1 c.requires.made.0, made.2 1 (omega arith) (omega (arith, c.requires.cipher_type, made.1)))

pub from_words-requires-2-clause-made : goal.from_words-requires-2-clause-made
from_words-requires-2-clause-made g c =
    let made = c.requires.made.1 in
    (part 2 c.requires.made.0, made.2 2 (omega arith) (omega (arith, c.requires.cipher_type, made.1)))

pub from_words-requires-3-clause-made : goal.from_words-requires-3-clause-made
from_words-requires-3-clause-made g c =
    let made = c.requires.made.1 in
    (part 3 c.requires.made.0, made.2 3 (omega arith) (omega (arith, c.requires.cipher_type, made.1)))

pub returns : goal.returns
returns g c key made =
    c.of_three.ensures.made key (omega (arith, made.0.0, made.1, c.requires.cipher_type), made.0.1)
    (c.from_words.ensures (part 1 key) (made.2 1 (omega arith) (omega (arith, c.requires.cipher_type, made.1))))
    (c.from_words-2.ensures (part 2 key) (made.2 2 (omega arith) (omega (arith, c.requires.cipher_type, made.1))))
    (c.from_words-3.ensures (part 3 key) (made.2 3 (omega arith) (omega (arith, c.requires.cipher_type, made.1))))
