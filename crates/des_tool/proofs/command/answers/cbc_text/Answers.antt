use Rattle.std.proofs.Common.{ℕ, List, Result, IfOk}
use Rattle.std.specs.declared.vec.Vec.{Vec}
use Rattle.std.specs.declared.alloc.Global.{Global}
use Rattle.std.proofs.lemmas.Result.{IfOk-weaker}
use Rattle.des.specs.Cbc.{CbcUnder}
use Rattle.des_tool.specs.declared.command.request.Cipher.{Cipher}
use Rattle.des_tool.specs.declared.command.request.Cipher.TheVariants.{Des, Ede3}
use Rattle.des_tool.specs.declared.command.request.Direction.{Direction}
use Rattle.des_tool.specs.declared.command.fault.Fault.{Fault}
use Rattle.des_tool.specs.Answer.{IsTextOf, ReadIn, relation_of}
use Rattle.des_tool.specs.Ciphers.{IsMadeBy}
use Rattle.des_tool.specs.Digits.{bytes_of_digits}
use Rattle.des_tool.specs.Request.{key_size_of}
use Rattle.des_tool.proofs.BlockTexts.{IsTextOf-cbc}
use Rattle.des_tool.proofs.KeyGraphs.{encryption_by, HasGraphs-cipher}
use Rattle.des_tool.proofs.command.answers.cbc_text.Goals as goal

-- a text of CBC by what the key encrypts to is one of CBC under the cipher's relation
under_relation : (cipher : Cipher) (direction : Direction) (key iv digits : List ℕ) (result : Result (Vec ℕ Global) Fault)
    → IfOk result (λ text.
    IsTextOf (ReadIn direction (CbcUnder (IsMadeBy (encryption_by cipher) (key_size_of cipher) key) iv))
    digits text.items)
    → IfOk result (λ text. IsTextOf (ReadIn direction (CbcUnder (relation_of cipher key) iv)) digits text.items)
under_relation cipher direction key iv digits result =
    IfOk-weaker result _ _ (λ text.
    IsTextOf-cbc direction (encryption_by cipher) (key_size_of cipher) key iv (relation_of cipher key)
    (λ is_key. (HasGraphs-cipher cipher key is_key).encryption) digits text.items)

pub returns-in-DesCbc-clause-answer : goal.returns-in-DesCbc-clause-answer
returns-in-DesCbc-clause-answer c =
    rw c.in-DesCbc.is (under_relation Des c.args.direction (bytes_of_digits c.args.key.now) (bytes_of_digits c.args.vector.now)
    c.args.digits.now c.cbc_text_by.result c.cbc_text_by.ensures.answer)

pub returns-in-Ede3Cbc-clause-answer : goal.returns-in-Ede3Cbc-clause-answer
returns-in-Ede3Cbc-clause-answer c =
    rw c.in-Ede3Cbc.is (under_relation Ede3 c.args.direction (bytes_of_digits c.args.key.now) (bytes_of_digits c.args.vector.now)
    c.args.digits.now c.cbc_text_by-in-Ede3Cbc.result c.cbc_text_by-in-Ede3Cbc.ensures.answer)
