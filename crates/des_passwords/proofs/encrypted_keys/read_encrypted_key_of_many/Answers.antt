use Rattle.std.proofs.Common.{arith}
use Rattle.des_passwords.proofs.KeyFiles.{found_is_file, file_is_found}
use Rattle.des_passwords.proofs.encrypted_keys.read_encrypted_key_of_many.Goals as goal

pub returns-clause-found : goal.returns-clause-found
returns-clause-found c =
    found_is_file c.args.most_iterations c.args.bytes.now c.encrypted_key_of.result
    (λ i. omega (arith, c.type_inv.bytes i)) c.encrypted_key_of.ensures

pub returns-clause-only : goal.returns-clause-only
returns-clause-only c =
    file_is_found c.args.most_iterations c.args.bytes.now c.encrypted_key_of.result
    (omega (arith, c.ranges.most_iterations.fits)) c.encrypted_key_of.ensures
