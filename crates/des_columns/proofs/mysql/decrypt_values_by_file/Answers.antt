use Rattle.std.proofs.Common.{None, get_or, refl}
use Rattle.des.specs.TripleCiphers.{ede3_decryption}
use Rattle.des_columns.specs.Columns.{ReadsAs}
use Rattle.des_columns.specs.KeyFile.{has_key}
use Rattle.des_columns.specs.Mysql.{number_of}
use Rattle.des_columns.specs.MysqlColumns.{ReadsByNumber}
use Rattle.des_columns.specs.declared.form.ValueForm.TheVariants.{Mysql}
use Rattle.des_columns.proofs.ReadColumns.{column-weaker}
use Rattle.des_columns.proofs.ValuesByNumber.{key_for, reads-by-number, zeros}
use Rattle.des_columns.proofs.mysql.decrypt_values_by_file.Goals as goal

pub returns-clause-read : goal.returns-clause-read
returns-clause-read g c =
    let keys = c.args.file.now.keys in
    column-weaker (ReadsAs Mysql zeros (has_key keys) (λ value. ede3_decryption (key_for keys value))) (ReadsByNumber keys)
    c.args.lengths.now c.args.values.now c.read.new.texts c.read.new.text_lengths c.read.new.statuses c.are_bytes.ensures
    (λ value status text are reads.
    reads-by-number keys value (get_or keys (number_of value) None) status text refl (c.are_keys.ensures (number_of value)) are
    reads) c.read.ensures.read
