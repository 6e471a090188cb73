use Rattle.std.proofs.Common.{ℕ, List, ap, ◌∙◌}
use Rattle.des.specs.Enciphering.{Enciphers}
use Rattle.des.specs.Blocks.{IsBlock}
use Rattle.des.specs.Des.{encryption}
use Rattle.des.proofs.ByteArrays.{IsKey-array}
use Rattle.des.proofs.Graphs.{IsGraphOf-encryption}
use Rattle.des.proofs.PassGraphs.{IsTheOne-answer}
use Rattle.des_fast.specs.Laws.DesLaws.{Agree-encrypted}
use Rattle.des_fast.proofs.single.DesBlockCipherEncrypt.encrypt_block.Goals as goal

pub returns-clause-encrypted : goal.returns-clause-encrypted
returns-clause-encrypted g c = c.process_one.ensures ∙ ap (λ (f : List ℕ → List ℕ). f c.args.block.now) c.pass.ensures

pub returns-clause-enciphers : goal.returns-clause-enciphers
returns-clause-enciphers g c key made =
    let is_block : IsBlock c.args.block.now = IsKey-array 8 c.args.block.now c.told-block c.fits-block in
    IsTheOne-answer (encryption key) (λ x y. Enciphers key x y) c.args.block.now c.process_one.new.block
    (IsGraphOf-encryption key made.0) is_block
    (returns-clause-encrypted g c ∙ (Agree-encrypted c.args.self.now key made).at c.args.block.now is_block)
