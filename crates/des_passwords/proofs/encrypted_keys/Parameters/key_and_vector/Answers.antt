use Rattle.std.proofs.Common.{rules, ◌≡◌, ◌∙◌, sym, ap, length}
use Rattle.des_passwords.specs.EncryptedKeys.{key_of, vector_of, thrice}
use Rattle.des_passwords.specs.declared.encrypted_keys.Scheme.{Scheme}
use Rattle.des_passwords.proofs.SplitKeys.{key_in, vector_in}
use Rattle.des_passwords.proofs.encrypted_keys.Parameters.key_and_vector.Goals as goal

pub returns-in-Pbes1Md5-clause-key : goal.returns-in-Pbes1Md5-clause-key
returns-in-Pbes1Md5-clause-key c =
    let single = c.in_ok-single-in-Pbes1Md5.single in
    let long : length single.key ≡ 8 = search rules in
    let key = c.args.self.now in
    c.as_triple.ensures.key
    ∙ ap thrice (key_in single.key single.vector _ long c.in_ok-single-in-Pbes1Md5.ensures.ok)
    ∙ sym (ap (λ (scheme : Scheme). key_of scheme c.args.password.now key.salt.now key.iterations) c.in-Pbes1Md5.is)

pub returns-in-Pbes1Md5-clause-vector : goal.returns-in-Pbes1Md5-clause-vector
returns-in-Pbes1Md5-clause-vector c =
    let single = c.in_ok-single-in-Pbes1Md5.single in
    let long : length single.key ≡ 8 = search rules in
    let key = c.args.self.now in
    c.as_triple.ensures.vector
    ∙ vector_in single.key single.vector _ long c.in_ok-single-in-Pbes1Md5.ensures.ok
    ∙ sym (ap (λ (scheme : Scheme). vector_of scheme c.args.password.now key.salt.now key.iterations key.vector) c.in-Pbes1Md5.is)

pub returns-in-Pbes1Sha1-clause-key : goal.returns-in-Pbes1Sha1-clause-key
returns-in-Pbes1Sha1-clause-key c =
    let single = c.in_ok-single-in-Pbes1Sha1.single in
    let long : length single.key ≡ 8 = search rules in
    let key = c.args.self.now in
    c.as_triple-in-Pbes1Sha1.ensures.key
    ∙ ap thrice (key_in single.key single.vector _ long c.in_ok-single-in-Pbes1Sha1.ensures.ok)
    ∙ sym (ap (λ (scheme : Scheme). key_of scheme c.args.password.now key.salt.now key.iterations) c.in-Pbes1Sha1.is)

pub returns-in-Pbes1Sha1-clause-vector : goal.returns-in-Pbes1Sha1-clause-vector
returns-in-Pbes1Sha1-clause-vector c =
    let single = c.in_ok-single-in-Pbes1Sha1.single in
    let long : length single.key ≡ 8 = search rules in
    let key = c.args.self.now in
    c.as_triple-in-Pbes1Sha1.ensures.vector
    ∙ vector_in single.key single.vector _ long c.in_ok-single-in-Pbes1Sha1.ensures.ok
    ∙ sym (ap (λ (scheme : Scheme). vector_of scheme c.args.password.now key.salt.now key.iterations key.vector) c.in-Pbes1Sha1.is)
