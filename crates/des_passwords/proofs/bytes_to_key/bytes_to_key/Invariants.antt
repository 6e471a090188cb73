use Rattle.std.proofs.Common.{◌≡◌, ◌≤◌, ◌*◌, length, take}
use Rattle.des_passwords.specs.BytesToKey.{d, ds}
use Rattle.des_passwords.proofs.bytes_to_key.bytes_to_key.Given as goal

-- as many digests are written as turns were taken, and the last is kept, none before the first turn
abbrev pub invariant-digests : goal.invariant-digests
invariant-digests g l =
    let digest = g.H.HashFunction.digest in let size = g.H.HashFunction.SIZE in
    record {
      width : length l.last ≡ size;
      fits : l.previous_size ≤ size;
      previous : take l.previous_size l.last ≡ d digest l.iterations l.password l.salt l.i;
      written : take (size * l.i) l.bytes ≡ ds digest l.iterations l.password l.salt l.i;
    }
