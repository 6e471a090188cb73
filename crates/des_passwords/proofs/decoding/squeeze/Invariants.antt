use Rattle.des_passwords.proofs.DecodedTexts.{IsSqueezed}
use Rattle.des_passwords.proofs.decoding.squeeze.Given as goal

-- what was given so far is in front
abbrev pub invariant-bytes : goal.invariant-bytes
invariant-bytes g l =
    IsSqueezed g.P.Decoding.after_of g.P.Decoding.given_of l.initial.position l.position l.initial.text l.text l.at l.kept
