use Rattle.des_columns.specs.Jasypt.{WritesBy}
use Rattle.des_columns.specs.declared.pbe.Algorithm.{Algorithm}
use Rattle.des_columns.proofs.Either.{of-either}
use Rattle.des_columns.proofs.jasypt.encrypt_by.Goals as goal

pub returns-in-Md5Des : goal.returns-in-Md5Des
returns-in-Md5Des c =
    of-either (λ (by : Algorithm). WritesBy by c.args.both.now c.args.text.now c.encrypt.new.encrypted) c.in-Md5Des.is
    c.encrypt.ensures c.encrypt.ensures

pub returns-in-Md5TripleDes : goal.returns-in-Md5TripleDes
returns-in-Md5TripleDes c =
    of-either (λ (by : Algorithm). WritesBy by c.args.both.now c.args.text.now c.encrypt-in-Md5TripleDes.new.encrypted)
    c.in-Md5TripleDes.is c.encrypt-in-Md5TripleDes.ensures c.encrypt-in-Md5TripleDes.ensures

pub returns-in-Sha1TwoKeys : goal.returns-in-Sha1TwoKeys
returns-in-Sha1TwoKeys c = rw c.in-Sha1TwoKeys.is c.encrypt-in-Sha1TwoKeys.ensures
