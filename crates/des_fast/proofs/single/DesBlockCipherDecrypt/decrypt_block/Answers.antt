use Rattle.std.proofs.Common.{ℕ, List, ap, ◌∙◌}
use Rattle.des.specs.Enciphering.{Enciphers}
use Rattle.des.specs.Blocks.{IsBlock}
use Rattle.des.specs.Des.{decryption}
use Rattle.des.proofs.ByteArrays.{IsKey-array}
use Rattle.des.proofs.Graphs.{IsGraphOf-decryption}
use Rattle.des.proofs.PassGraphs.{IsTheOne-answer}
use Rattle.des_fast.specs.Laws.DesLaws.{Agree-decrypted}
use Rattle.des_fast.proofs.single.DesBlockCipherDecrypt.decrypt_block.Goals as goal

pub returns-clause-decrypted : goal.returns-clause-decrypted
returns-clause-decrypted g c = c.process_one.ensures ∙ ap (λ (f : List ℕ → List ℕ). f c.args.block.now) c.pass.ensures

pub returns-clause-deciphers : goal.returns-clause-deciphers
returns-clause-deciphers g c key made =
    let is_block : IsBlock c.args.block.now = IsKey-array 8 c.args.block.now c.told-block c.fits-block in
    IsTheOne-answer (decryption key) (λ y x. Enciphers key x y) c.args.block.now c.process_one.new.block
    (IsGraphOf-decryption key made.0) is_block
    (returns-clause-decrypted g c ∙ (Agree-decrypted c.args.self.now key made).at c.args.block.now is_block)
