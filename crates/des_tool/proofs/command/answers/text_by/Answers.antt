use Rattle.std.proofs.Common.{◌≡◌, arith, ◌∙◌}
use Rattle.std.proofs.lemmas.List.{with_items_is}
use Rattle.std.proofs.lemmas.Result.{IfOk-weaker}
use Rattle.des_tool.specs.Ciphers.{in_direction}
use Rattle.des_tool.specs.Digits.{bytes_of_digits}
use Rattle.des_tool.proofs.BlockTexts.{AnswersEach-map, in_direction-same}
use Rattle.des_tool.proofs.command.answers.text_by.Goals as goal

pub returns-clause-answer : goal.returns-clause-answer
returns-clause-answer g c =
    let blocks = c.in_ok-blocks.blocks in
    let cipher = c.in_ok-cipher.cipher in
    let key = bytes_of_digits c.args.key.now in
    let is_key = c.in_ok-cipher.ensures.key in
    let made = c.in_ok-cipher.ensures.made in
    let function =
    in_direction c.args.direction g.C.BlockCipherEncrypt.encrypted g.C.BlockCipherDecrypt.decrypted cipher in
    let kept : c.as_slice.result.now ≡ c.apply_ecb.new.blocks =
    c.as_slice.ensures.value ∙ with_items_is blocks c.apply_ecb.new.blocks (omega arith) in
    IfOk-weaker c.text_of.result _ _
    (λ text written. record {
      blocks = blocks.items;
      results = c.as_slice.result.now;
      joined = c.in_ok-blocks.ensures.joined;
      related = rw (kept, c.apply_ecb.ensures, c.as_mut_slice.ensures.value)
          (AnswersEach-map _ _ key function blocks.items is_key c.in_ok-blocks.ensures.blocks
          (λ block is_block. in_direction-same c.args.direction _ _ _ _ cipher key block
          (g.met.C.KeyedCipher.encrypts_by_key cipher key block is_key made is_block)
          (g.met.C.KeyedCipher.decrypts_by_key cipher key block is_key made is_block)));
      written = written;
    })
    c.text_of.ensures.text
