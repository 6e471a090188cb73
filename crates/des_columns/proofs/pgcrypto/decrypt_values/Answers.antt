use Rattle.des_columns.specs.Columns.{pieces}
use Rattle.des_columns.specs.PgcryptoColumns.{mode_by, relation_by}
use Rattle.des_columns.specs.Readings.{IsColumnRead, IsReading}
use Rattle.des_columns.specs.declared.pgcrypto.Cipher.{Cipher}
use Rattle.des_columns.proofs.Either.{of-either}
use Rattle.des_columns.proofs.pgcrypto.decrypt_values.Goals as goal

pub returns-in-Des-clause-read : goal.returns-in-Des-clause-read
returns-in-Des-clause-read g c =
    let R : Cipher → Type 0 = λ cipher. IsColumnRead
    (IsReading c.args.by.form (mode_by c.args.by.cipher c.args.iv.now) (relation_by cipher c.args.key.now))
    (pieces c.args.lengths.now c.args.values.now) c.read_values.new.texts c.read_values.new.text_lengths
    c.read_values.new.statuses in
    let read = rw (c.mode_by-mode.ensures, c.filled.ensures) at c.read_values.ensures.read in
    of-either R c.in-Des.is read read

pub returns-in-TripleDes-clause-read : goal.returns-in-TripleDes-clause-read
returns-in-TripleDes-clause-read g c =
    let R : Cipher → Type 0 = λ cipher. IsColumnRead
    (IsReading c.args.by.form (mode_by c.args.by.cipher c.args.iv.now) (relation_by cipher c.args.key.now))
    (pieces c.args.lengths.now c.args.values.now) c.read_values-in-TripleDes.new.texts
    c.read_values-in-TripleDes.new.text_lengths c.read_values-in-TripleDes.new.statuses in
    let read = rw (c.mode_by-mode.ensures, c.filled-in-TripleDes.ensures) at c.read_values-in-TripleDes.ensures.read in
    of-either R c.in-TripleDes.is read read
