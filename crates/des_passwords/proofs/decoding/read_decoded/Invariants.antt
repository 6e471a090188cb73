use Rattle.std.proofs.Common.{[]}
use Rattle.des_passwords.specs.Decoding.{Decodes}
use Rattle.des_passwords.proofs.decoding.read_decoded.Given as goal

-- what was read so far gave nothing
abbrev pub invariant-reads : goal.invariant-reads
invariant-reads g l =
    Decodes g.P.Decoding.after_of g.P.Decoding.given_of (g.R.Read.remaining l.initial.inner) (g.R.Read.remaining l.inner)
    l.initial.position l.position []
