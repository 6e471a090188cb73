use Rattle.std.proofs.Common.{take}
use Rattle.des_columns.specs.Jasypt.{ReadsBy}
use Rattle.des_columns.specs.declared.pbe.Algorithm.{Algorithm}
use Rattle.des_columns.proofs.Either.{of-either}
use Rattle.des_columns.proofs.jasypt.decrypt_by.Goals as goal

pub returns-in-Md5Des-clause-read : goal.returns-in-Md5Des-clause-read
returns-in-Md5Des-clause-read c =
    of-either (λ (by : Algorithm). ReadsBy by c.args.both.now c.args.encrypted.now c.decrypt.result.status
    (take c.decrypt.result.length c.decrypt.new.encrypted)) c.in-Md5Des.is c.decrypt.ensures.read c.decrypt.ensures.read

pub returns-in-Md5TripleDes-clause-read : goal.returns-in-Md5TripleDes-clause-read
returns-in-Md5TripleDes-clause-read c =
    of-either (λ (by : Algorithm). ReadsBy by c.args.both.now c.args.encrypted.now c.decrypt-in-Md5TripleDes.result.status
    (take c.decrypt-in-Md5TripleDes.result.length c.decrypt-in-Md5TripleDes.new.encrypted)) c.in-Md5TripleDes.is
    c.decrypt-in-Md5TripleDes.ensures.read c.decrypt-in-Md5TripleDes.ensures.read

pub returns-in-Sha1TwoKeys-clause-read : goal.returns-in-Sha1TwoKeys-clause-read
returns-in-Sha1TwoKeys-clause-read c = rw c.in-Sha1TwoKeys.is c.decrypt-in-Sha1TwoKeys.ensures.read
