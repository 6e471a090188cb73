use Rattle.std.proofs.Common.{reverse, ap, ◌∙◌, rules}
use Rattle.std.proofs.lemmas.Iterator.Adapters.{YieldsList-from_rev_slice}
use Rattle.des.specs.Rounds.{block_by_keys}
use Rattle.des.proofs.RoundsOnWords.{round_keys_of-reverse}
use Rattle.des.proofs.Graphs.{IsTheOne-decrypted}
use Rattle.des.proofs.des.DesBlockCipherDecrypt.decrypt_block.Goals as goal

pub returns-clause-decrypted : goal.returns-clause-decrypted
returns-clause-decrypted c =
    let words = c.args.self.now.round_keys in
    c.run_rounds.ensures.processed (reverse words) (YieldsList-from_rev_slice words (search rules)).runs
    ∙ ap (λ keys. block_by_keys keys c.args.block.now) (round_keys_of-reverse words)

pub returns-clause-deciphers : goal.returns-clause-deciphers
returns-clause-deciphers c key of_key =
    IsTheOne-decrypted c.args.self.now key c.args.block.now c.run_rounds.new.block of_key c.run_rounds.ensures.was_block
    (returns-clause-decrypted c)
