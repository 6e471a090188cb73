use Rattle.std.proofs.Common.{ℕ, List, Result, IfOk}
use Rattle.std.specs.declared.vec.Vec.{Vec}
use Rattle.std.specs.declared.alloc.Global.{Global}
use Rattle.des_tool.specs.declared.command.fault.Fault.{Fault}
use Rattle.std.proofs.lemmas.Result.{IfOk-weaker}
use Rattle.des.specs.Blocks.{AnswersEach}
use Rattle.des_tool.specs.declared.command.request.Cipher.{Cipher}
use Rattle.des_tool.specs.declared.command.request.Cipher.TheVariants.{Des, Ede3, Eee3, Ede2, Eee2}
use Rattle.des_tool.specs.declared.command.request.Direction.{Direction}
use Rattle.des_tool.specs.Answer.{IsTextOf, ReadIn, relation_of}
use Rattle.des_tool.specs.Ciphers.{IsMadeBy, in_direction}
use Rattle.des_tool.specs.Digits.{bytes_of_digits}
use Rattle.des_tool.specs.Request.{key_size_of}
use Rattle.des_tool.proofs.BlockTexts.{IsTextOf-made}
use Rattle.des_tool.proofs.KeyGraphs.{encryption_by, decryption_by, HasGraphs-cipher}
use Rattle.des_tool.proofs.command.answers.blocks_text.Goals as goal

-- a text of what the key makes of blocks is one under its relation
under_relation : (cipher : Cipher) (direction : Direction) (key digits : List ℕ) (result : Result (Vec ℕ Global) Fault)
    → IfOk result (λ text. IsTextOf
    (AnswersEach (IsMadeBy (in_direction direction (encryption_by cipher) (decryption_by cipher)) (key_size_of cipher)
    key)) digits text.items)
    → IfOk result (λ text. IsTextOf (AnswersEach (ReadIn direction (relation_of cipher key))) digits text.items)
under_relation cipher direction key digits result =
    IfOk-weaker result _ _ (λ text. IsTextOf-made direction (encryption_by cipher) (decryption_by cipher)
    (key_size_of cipher) key (relation_of cipher key) (λ is_key. (HasGraphs-cipher cipher key is_key).encryption)
    (λ is_key. (HasGraphs-cipher cipher key is_key).decryption) digits text.items)

pub returns-in-Des-clause-answer : goal.returns-in-Des-clause-answer
returns-in-Des-clause-answer c =
    rw c.in-Des.is (under_relation Des c.args.direction (bytes_of_digits c.args.key.now) c.args.digits.now c.text_by.result
    c.text_by.ensures.answer)

pub returns-in-Ede3-clause-answer : goal.returns-in-Ede3-clause-answer
returns-in-Ede3-clause-answer c =
    rw c.in-Ede3.is (under_relation Ede3 c.args.direction (bytes_of_digits c.args.key.now) c.args.digits.now c.text_by-in-Ede3.result
    c.text_by-in-Ede3.ensures.answer)

pub returns-in-Eee3-clause-answer : goal.returns-in-Eee3-clause-answer
returns-in-Eee3-clause-answer c =
    rw c.in-Eee3.is (under_relation Eee3 c.args.direction (bytes_of_digits c.args.key.now) c.args.digits.now c.text_by-in-Eee3.result
    c.text_by-in-Eee3.ensures.answer)

pub returns-in-Ede2-clause-answer : goal.returns-in-Ede2-clause-answer
returns-in-Ede2-clause-answer c =
    rw c.in-Ede2.is (under_relation Ede2 c.args.direction (bytes_of_digits c.args.key.now) c.args.digits.now c.text_by-in-Ede2.result
    c.text_by-in-Ede2.ensures.answer)

pub returns-in-Eee2-clause-answer : goal.returns-in-Eee2-clause-answer
returns-in-Eee2-clause-answer c =
    rw c.in-Eee2.is (under_relation Eee2 c.args.direction (bytes_of_digits c.args.key.now) c.args.digits.now c.text_by-in-Eee2.result
    c.text_by-in-Eee2.ensures.answer)
