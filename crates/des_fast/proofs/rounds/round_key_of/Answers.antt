use Rattle.std.proofs.Common.{ap, sym, ◌∙◌, arith}
use Rattle.des_fast.specs.RoundKeyChanges.{key_word}
use Rattle.des_fast.proofs.RoundKeysByPlace.{key_word-at, key_word-at_reverse}
use Rattle.des_fast.proofs.rounds.round_key_of.Goals as goal

pub returns-then-deciphers : goal.returns-then-deciphers
returns-then-deciphers c =
    key_word-at_reverse c.args.round_keys.now c.args.round _ _ (omega arith)
    ∙ ap (λ deciphers. key_word deciphers c.args.round_keys.now c.args.round) (sym c.if-deciphers.true)

pub returns-else-deciphers : goal.returns-else-deciphers
returns-else-deciphers c =
    key_word-at c.args.round_keys.now c.args.round _ (omega arith)
    ∙ ap (λ deciphers. key_word deciphers c.args.round_keys.now c.args.round) (sym c.if-deciphers.false)
