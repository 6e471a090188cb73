use Rattle.des_columns.specs.Columns.{pieces}
use Rattle.des_columns.specs.PgcryptoColumns.{mode_by, relation_by}
use Rattle.des_columns.specs.Writings.{IsColumnWritten, IsWriting, value_size}
use Rattle.des_columns.specs.declared.pgcrypto.Cipher.{Cipher}
use Rattle.des_columns.proofs.Either.{of-either}
use Rattle.des_columns.proofs.pgcrypto.encrypt_values.Goals as goal

pub returns-in-Des : goal.returns-in-Des
returns-in-Des g c =
    let W : Cipher → Type 0 = λ cipher. IsColumnWritten (value_size c.args.by.form)
    (IsWriting c.args.by.form 0 (mode_by c.args.by.cipher c.args.iv.now) (relation_by cipher c.args.key.now))
    (pieces c.args.lengths.now c.args.texts.now) c.write_values.new.values in
    let written = rw (c.mode_by-mode.ensures, c.filled.ensures) at c.write_values.ensures in
    of-either W c.in-Des.is written written

pub returns-in-TripleDes : goal.returns-in-TripleDes
returns-in-TripleDes g c =
    let W : Cipher → Type 0 = λ cipher. IsColumnWritten (value_size c.args.by.form)
    (IsWriting c.args.by.form 0 (mode_by c.args.by.cipher c.args.iv.now) (relation_by cipher c.args.key.now))
    (pieces c.args.lengths.now c.args.texts.now) c.write_values-in-TripleDes.new.values in
    let written = rw (c.mode_by-mode.ensures, c.filled-in-TripleDes.ensures) at c.write_values-in-TripleDes.ensures in
    of-either W c.in-TripleDes.is written written
