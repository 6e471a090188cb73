-- The keys are those at their places.
use Rattle.std.proofs.Common.{map, ap, sym}
use Rattle.des_fast.specs.ChainingValues.{under_key}
use Rattle.des_fast.proofs.many.each_key.KeyForEach.chaining_values_each_by.Goals as goal

pub returns-clause-ok : goal.returns-clause-ok
returns-clause-ok g c =
    let bytes = g.Self.Key.KeyBytes.bytes_of in
    c.last_values.ensures.ends (under_key g.Self.KeyedCipher.encryption (map bytes c.args.keys.now))
    (ap (λ keys. under_key g.Self.KeyedCipher.encryption (map bytes keys)) (sym c.new.ensures))
