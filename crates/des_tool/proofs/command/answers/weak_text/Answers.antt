use Rattle.std.proofs.Common.{◌≡◌, codes, refl, inl, inr, ap, ◌∙◌}
use Rattle.des.specs.WeakKeys.{IsRefused}
use Rattle.des_tool.specs.Digits.{bytes_of_digits}
use Rattle.des_tool.proofs.command.answers.weak_text.Goals as goal
use Rattle.des_tool.proofs.command.answers.weak_text.Goals.{in-Ok, in-Err}

-- the test's answer on the bytes of the digits, and the text that was copied
pub returns-clause-answer : goal.returns-clause-answer
returns-clause-answer c =
    let key : c.parse_key.new.key ≡ bytes_of_digits c.args.digits.now = c.in_ok-parse_key.ensures.key in
    elim c.match-weak_key_test.branch [
      | in-Ok w ↦
          let passes : ¬ (IsRefused c.parse_key.new.key) = λ refused. cc (w.in-Ok.ensures.refused.1 refused) in
          let text : c.in_ok-from_slice.field-0.items ≡ codes "Ok\n" =
          c.in_ok-from_slice.ensures.items ∙ ap (λ (t : _). t.now) w.text-is ∙ w.as_slice-text.ensures in
          inr (rw key at passes, text)
      | in-Err w ↦
          let text : c.in_ok-from_slice.field-0.items ≡ codes "WeakKey\n" =
          c.in_ok-from_slice.ensures.items ∙ ap (λ (t : _). t.now) w.text-is ∙ w.as_slice-text-in-Err.ensures in
          inl (rw key at (w.in-Err.ensures.refused.0 refl), text)
    ]
