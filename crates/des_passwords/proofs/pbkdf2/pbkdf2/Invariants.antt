use Rattle.std.proofs.Common.{◌≡◌, ◌*◌, take}
use Rattle.des_passwords.specs.Hmac.{hmac}
use Rattle.des_passwords.specs.Pbkdf2.{blocks}
use Rattle.des_passwords.proofs.pbkdf2.pbkdf2.Given as goal

-- as many blocks are written as turns were taken
abbrev pub invariant-parts : goal.invariant-parts
invariant-parts g l =
    let digest = g.H.HashFunction.digest in let size = g.H.HashFunction.SIZE in
    take (size * l.i) l.key ≡ blocks (hmac digest l.password) l.salt l.iterations l.i
