use Rattle.std.proofs.Common.{ℕ, List, true}
use Rattle.des_columns.specs.Columns.{ReadsAs, plain_of}
use Rattle.des_columns.specs.Readings.{IsReading}
use Rattle.des_columns.proofs.ReadColumns.{column-weaker}
use Rattle.des_columns.proofs.ReadValues.{plain-encrypted}
use Rattle.des_columns.proofs.one_key.read_values.Goals as goal

-- each value is read as what was encrypted to it
pub returns-clause-read : goal.returns-clause-read
returns-clause-read g c =
    let cipher = c.new.result in
    let f : List ℕ → List ℕ = g.C.BlockCipherDecrypt.decrypted cipher in
    let R = g.C.Relating.relation (g.C.Key.KeyBytes.bytes_of c.args.key.now) in
    column-weaker (ReadsAs c.args.form c.args.mode (λ value. true) (λ value. f)) (IsReading c.args.form c.args.mode R)
    c.args.lengths.now c.args.values.now c.read.new.texts c.read.new.text_lengths c.read.new.statuses c.are_bytes.ensures
    (λ value status text are reads. record {
      plain = plain_of c.args.form c.args.mode (λ value. f) value;
      encrypted =
          plain-encrypted R (g.C.BlockCipherEncrypt.encrypted cipher) f
          (g.met.C.Relating.encrypts_by_relation cipher _ c.new.ensures) (g.met.C.BlockCipher.decrypted_is_block cipher)
          (g.met.C.BlockCipher.encrypts_decrypted cipher) c.args.form c.args.mode value c.has_vector.ensures are;
      status_is = reads.0;
      text_is = reads.1;
    }) c.read.ensures.read
