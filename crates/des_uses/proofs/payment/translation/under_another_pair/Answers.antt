-- A block of format 0 that is translated is the same block in clear.
use Rattle.std.proofs.Common.{rules, ◌≡◌, ℕ, List, Result, Ok, Err, IfOk, length, replicate, sym, ap, ◌∙◌}
use Rattle.des.specs.TripleCiphers.{ede2_encryption, ede2_decryption}
use Rattle.des_payment.specs.KeyLengths.{decryption_by}
use Rattle.des_payment.specs.PinBlocks.{IsFormat0}
use Rattle.des_payment.specs.Translation.{IsTranslation}
use Rattle.des_payment.specs.declared.translation.Format.TheVariants.{Format0}
use Rattle.des_payment.specs.declared.translation_error.TranslationError.{TranslationError}
use Rattle.des_payment.proofs.DigitLists.{digits_of-injective}
use Rattle.des_uses.proofs.payment.translation.under_another_pair.Goals as goal

-- the format makes one block of a PIN and an account number
one_block : (pin account block other : List ℕ) → IsFormat0 pin account block → IsFormat0 pin account other
    → block ≡ other
one_block pin account block other is it = digits_of-injective block other (is.2.1 ∙ sym it.2.1)

again : (incoming outgoing account fill block : List ℕ) (made : Result (List ℕ) TranslationError)
    → length incoming ≡ 16 → length outgoing ≡ 16
    → IfOk made (IsTranslation incoming Format0 outgoing Format0 account fill block)
    → IfOk made (λ translated. translated ≡ ede2_encryption outgoing (ede2_decryption incoming block))
again incoming outgoing account fill block (Ok translated) from to (pin, other, next, is, it, same) =
    let one : decryption_by incoming block ≡ next = one_block pin account _ next is it in
    let clear : ede2_decryption incoming block ≡ next = rw from at one in
    let made : translated ≡ ede2_encryption outgoing next = rw to at same in
    made ∙ sym (ap (ede2_encryption outgoing) clear)
again incoming outgoing account fill block (Err fault) from to translated = tt

pub returns : goal.returns
returns c =
    let from : length c.args.incoming.now ≡ 16 = search rules in
    let to : length c.args.outgoing.now ≡ 16 = search rules in
    again c.args.incoming.now c.args.outgoing.now c.args.account.now (replicate 10 0) c.args.block.now c.translate.result from to
    c.translate.ensures.translated
