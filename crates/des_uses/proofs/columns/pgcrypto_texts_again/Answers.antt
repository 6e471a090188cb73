use Rattle.std.proofs.Common.{length, map, sum, ap, sym, ◌∙◌, subst}
use Rattle.std.specs.List.{All, sum_by}
use Rattle.std.specs.Option.{is_some}
use Rattle.std.proofs.lemmas.List.{length-map}
use Rattle.std.proofs.lemmas.List.Sums.{sum-map}
use Rattle.des_columns.specs.PgcryptoColumns.{form_of}
use Rattle.des_columns.specs.Writings.{IsTextSize, value_size}
use Rattle.des_columns.specs.declared.form.ValueForm.{ValueForm}
use Rattle.des_columns.proofs.TextsOfValues.{form-named}
use Rattle.des_uses.proofs.ColumnsAgain.{pgcrypto-again}
use Rattle.des_uses.proofs.columns.pgcrypto_texts_again.Goals as goal

pub encrypt_values-requires-clause-sizes : goal.encrypt_values-requires-clause-sizes
encrypt_values-requires-clause-sizes g c =
    subst (λ (form : ValueForm). All (IsTextSize form) c.args.lengths.now)
    (sym (form-named c.args.name.now c.in-Some.by (sym c.in-Some.ensures))) c.requires.fit

pub encrypt_values-requires-clause-values : goal.encrypt_values-requires-clause-values
encrypt_values-requires-clause-values g c =
    c.requires.values
    ∙ ap sum c.requires.sizes
    ∙ sum-map (value_size (form_of c.args.name.now)) c.args.lengths.now
    ∙ ap (λ (form : ValueForm). sum_by (value_size form) c.args.lengths.now)
    (sym (form-named c.args.name.now c.in-Some.by (sym c.in-Some.ensures)))

pub decrypt_values-requires-clause-text_lengths : goal.decrypt_values-requires-clause-text_lengths
decrypt_values-requires-clause-text_lengths g c =
    c.requires.again_lengths
    ∙ sym (ap length c.requires.sizes ∙ length-map c.args.lengths.now (value_size (form_of c.args.name.now)))

pub decrypt_values-requires-clause-statuses : goal.decrypt_values-requires-clause-statuses
decrypt_values-requires-clause-statuses g c =
    c.requires.statuses
    ∙ sym (ap length c.requires.sizes ∙ length-map c.args.lengths.now (value_size (form_of c.args.name.now)))

pub returns : goal.returns
returns g c =
    let named = sym c.in-Some.ensures in
    let is = sym (form-named c.args.name.now c.in-Some.by named) in
    let again =
    pgcrypto-again c.in-Some.by c.args.key.now c.args.iv.now c.args.lengths.now c.args.texts.now c.args.value_lengths.now
    c.encrypt_values.new.values c.decrypt_values.new.texts c.decrypt_values.new.text_lengths c.decrypt_values.new.statuses
    c.are_bytes.ensures c.are_bytes-2.ensures c.requires.whole
    (subst (λ (form : ValueForm). All (IsTextSize form) c.args.lengths.now) is c.requires.fit)
    (c.requires.sizes ∙ ap (λ (form : ValueForm). map (value_size form) c.args.lengths.now) is) c.encrypt_values.ensures
    c.decrypt_values.ensures.read in
    record {
      read = (λ true. ap is_some named, λ some. c.decrypt_values.ensures.all.1 again.all);
      lengths = λ true. again.lengths_are;
      texts = λ true. again.texts_are;
    }
