use Rattle.std.proofs.Common.{rules}
use Rattle.std.proofs.lemmas.Iterator.{YieldsList-from_slice}
use Rattle.des.proofs.Graphs.{IsTheOne-encrypted}
use Rattle.des.proofs.des.DesBlockCipherEncrypt.encrypt_block.Goals as goal

pub returns-clause-encrypted : goal.returns-clause-encrypted
returns-clause-encrypted c =
    let words = c.args.self.now.round_keys in
    c.run_rounds.ensures.processed words (YieldsList-from_slice words (search rules)).runs

pub returns-clause-enciphers : goal.returns-clause-enciphers
returns-clause-enciphers c key of_key =
    IsTheOne-encrypted c.args.self.now key c.args.block.now c.run_rounds.new.block of_key c.run_rounds.ensures.was_block
    (returns-clause-encrypted c)
