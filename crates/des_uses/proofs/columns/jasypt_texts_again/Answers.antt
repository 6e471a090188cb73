use Rattle.std.proofs.Common.{◌≡◌, ◌↔◌, ◌+◌, Bool, IsTrue, Result, Ok, Err, IfOk, OnOk, length, sum, refl, ap, sym, ◌∙◌}
use Rattle.std.specs.List.{All}
use Rattle.std.proofs.lemmas.List.{length-map}
use Rattle.std.proofs.lemmas.List.Sums.{sum-map}
use Rattle.std.proofs.lemmas.Result.{on_ok_weaker}
use Rattle.des_columns.specs.Columns.{pieces}
use Rattle.des_columns.specs.Jasypt.{Reads, value_size as string_size}
use Rattle.des_columns.specs.Readings.{IsColumnRead}
use Rattle.des_columns.specs.declared.status.TheConstants.{OK}
use Rattle.des_uses.proofs.JasyptAgain.{jasypt-again}
use Rattle.des_uses.proofs.columns.jasypt_texts_again.Goals as goal

pub encrypt_values-requires-clause-values : goal.encrypt_values-requires-clause-values
encrypt_values-requires-clause-values c =
    c.requires.values ∙ ap sum c.requires.sizes ∙ sum-map (λ size. string_size (8 + size)) c.args.lengths.now

pub decrypt_values-requires-clause-text_lengths : goal.decrypt_values-requires-clause-text_lengths
decrypt_values-requires-clause-text_lengths c =
    c.requires.again_lengths
    ∙ sym (ap length c.requires.sizes ∙ length-map c.args.lengths.now (λ size. string_size (8 + size)))

pub decrypt_values-requires-clause-statuses : goal.decrypt_values-requires-clause-statuses
decrypt_values-requires-clause-statuses c =
    c.requires.statuses ∙ sym (ap length c.requires.sizes ∙ length-map c.args.lengths.now (λ size. string_size (8 + size)))

-- all are read, if each is
all-true : {E : Type 0} (P : Type 0) (result : Result Bool E) → IfOk result (λ all. IsTrue all ↔ P) → OnOk result P
    → IfOk result (λ all. IsTrue all)
all-true P (Ok all) tells are = tells.1 are
all-true P (Err error) tells are = tt

pub returns : goal.returns
returns c =
    let some = c.in_ok-encrypt_values.ensures.accepted.0 refl in
    let again = λ (column : IsColumnRead (Reads c.args.by c.args.iterations c.args.password.now)
    (pieces c.args.value_lengths.now c.encrypt_values.new.values) c.decrypt_values.new.texts c.decrypt_values.new.text_lengths
    c.decrypt_values.new.statuses).
    jasypt-again c.args.by c.args.iterations c.args.password.now c.args.salts.now c.args.lengths.now c.args.texts.now
    c.args.value_lengths.now c.encrypt_values.new.values c.decrypt_values.new.texts c.decrypt_values.new.text_lengths
    c.decrypt_values.new.statuses some c.are_blocks.ensures c.requires.salts c.requires.whole c.requires.sizes
    c.in_ok-encrypt_values.ensures.written column in
    let read = c.decrypt_values.ensures.read in
    record {
      accepted = (λ ok. some, λ is. c.decrypt_values.ensures.accepted.1 is);
      read = all-true (All (λ status. status ≡ OK) c.decrypt_values.new.statuses) c.decrypt_values.result c.decrypt_values.ensures.all
          (on_ok_weaker c.decrypt_values.result (λ column. (again column).all) read);
      lengths = on_ok_weaker c.decrypt_values.result (λ column. (again column).lengths_are) read;
      texts = on_ok_weaker c.decrypt_values.result (λ column. (again column).texts_are) read;
    }
