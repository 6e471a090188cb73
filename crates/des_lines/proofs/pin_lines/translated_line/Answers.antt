use Rattle.std.proofs.Common.{◌≡◌, ◌∙◌, ℕ, List}
use Rattle.std.proofs.lemmas.Result.{IfOk-weaker}
use Rattle.des_payment.specs.Translation.{IsTranslation}
use Rattle.des_payment.specs.declared.translation.Format.{Format}
use Rattle.des_lines.proofs.pin_lines.translated_line.Goals as goal

-- a translation of what is read of the texts is one of what the texts write
of_texts : (from to : Format) (account incoming outgoing fill block key to_key digits bytes translated : List ℕ)
    → incoming ≡ key → outgoing ≡ to_key → fill ≡ digits → block ≡ bytes
    → IsTranslation incoming from outgoing to account fill block translated
    → IsTranslation key from to_key to account digits bytes translated
of_texts from to account incoming outgoing fill block key to_key digits bytes translated is_key is_to_key is_fill is_block is =
    rw (is_key, is_to_key, is_fill, is_block) at is

pub returns-clause-line : goal.returns-clause-line
returns-clause-line c =
    let translated = of_texts c.args.from c.args.to c.args.inputs.account.now _ _ _ _ _ _ _ _ _
    (c.bytes-key.ensures.value ∙ c.in_ok-key.ensures.key) (c.bytes-to_key.ensures.value ∙ c.in_ok-key.ensures.to_key)
    c.in_ok-fill.ensures.digits c.in_ok-key.ensures.block c.in_ok-translated.ensures.translated in
    IfOk-weaker c.hex_answer.result _ _ (λ line is. (_, (translated, is))) c.hex_answer.ensures.line
