use Rattle.std.proofs.Common.{◌≡◌, List, ℕ, arith, ◌∙◌}
use Rattle.std.proofs.lemmas.List.{with_items_is}
use Rattle.std.proofs.lemmas.Result.{IfOk-weaker}
use Rattle.des_tool.specs.Digits.{bytes_of_digits}
use Rattle.des_tool.proofs.BlockTexts.{ReadIn-cbc}
use Rattle.des_tool.proofs.command.answers.cbc_text_by.Goals as goal

pub returns-clause-answer : goal.returns-clause-answer
returns-clause-answer g c =
    let blocks = c.in_ok-blocks.blocks in
    let cipher = c.in_ok-cipher.cipher in
    let key : List ℕ = bytes_of_digits c.args.key.now in
    let iv : List ℕ = bytes_of_digits c.args.vector.now in
    let is_key = c.in_ok-cipher.ensures.key in
    let made = c.in_ok-cipher.ensures.made in
    let kept : c.as_slice.result.now ≡ c.apply_cbc.new.blocks =
    c.as_slice.ensures.value ∙ with_items_is blocks c.apply_cbc.new.blocks (omega arith) in
    let encrypts = g.C.BlockCipherEncrypt.encrypted cipher in
    let decrypts = g.C.BlockCipherDecrypt.decrypted cipher in
    let chained = rw (c.in_ok-iv.ensures.vector, c.as_mut_slice.ensures.value) at c.apply_cbc.ensures in
    IfOk-weaker c.text_of.result _ _
    (λ text written. record {
      blocks = blocks.items;
      results = c.as_slice.result.now;
      joined = c.in_ok-blocks.ensures.joined;
      related = rw kept (ReadIn-cbc c.args.direction encrypts decrypts g.C.KeyedCipher.encryption
          g.C.KeySizeUser.KEY_SIZE key iv
          blocks.items c.apply_cbc.new.blocks is_key c.in_ok-iv.ensures.is_block c.in_ok-blocks.ensures.blocks
          (g.met.C.BlockCipher.encrypted_is_block cipher) (g.met.C.BlockCipher.decrypted_is_block cipher)
          (g.met.C.BlockCipher.encrypts_decrypted cipher)
          (λ block is_block. g.met.C.KeyedCipher.encrypts_by_key cipher key block is_key made is_block) chained);
      written = written;
    })
    c.text_of.ensures.text
