use Rattle.std.proofs.Common.{ℕ, ◌<◌, List, length, sum, ap, sym, ◌∙◌, rules}
use Rattle.std.proofs.lemmas.List.{length-map}
use Rattle.std.proofs.lemmas.List.Elements.{All-from_get_or}
use Rattle.std.proofs.lemmas.List.Sums.{sum-map}
use Rattle.des.specs.Blocks.{IsKey}
use Rattle.des_columns.specs.Writings.{value_size}
use Rattle.des_columns.specs.declared.form.ValueForm.TheVariants.{Mysql}
use Rattle.des_uses.proofs.ColumnsAgain.{mysql-again}
use Rattle.des_uses.proofs.columns.mysql_texts_again.Goals as goal

pub encrypt_values-requires-clause-values : goal.encrypt_values-requires-clause-values
encrypt_values-requires-clause-values g c =
    c.requires.values ∙ ap sum c.requires.sizes ∙ sum-map (value_size Mysql) c.args.lengths.now

pub decrypt_values-requires-clause-text_lengths : goal.decrypt_values-requires-clause-text_lengths
decrypt_values-requires-clause-text_lengths g c =
    c.requires.again_lengths
    ∙ sym (ap length c.requires.sizes ∙ length-map c.args.lengths.now (value_size Mysql))

pub decrypt_values-requires-clause-statuses : goal.decrypt_values-requires-clause-statuses
decrypt_values-requires-clause-statuses g c =
    c.requires.statuses ∙ sym (ap length c.requires.sizes ∙ length-map c.args.lengths.now (value_size Mysql))

pub returns : goal.returns
returns g c =
    let key : List ℕ = c.args.key.now in
    let is_key : IsKey 24 key = (search rules, All-from_get_or (λ byte. byte < 256) key 0 (λ i within. search rules)) in
    let again =
    mysql-again key c.args.number c.args.lengths.now c.args.texts.now c.args.value_lengths.now c.encrypt_values.new.values
    c.decrypt_values.new.texts c.decrypt_values.new.text_lengths c.decrypt_values.new.statuses is_key c.requires.whole
    c.requires.sizes c.encrypt_values.ensures c.decrypt_values.ensures.read in
    record {
      read = c.decrypt_values.ensures.all.1 again.all;
      lengths = again.lengths_are;
      texts = again.texts_are;
    }
