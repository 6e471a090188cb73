use Rattle.std.proofs.Common.{ℕ, ◌+◌, ◌/◌, ◌∙◌, ◌++◌, List, [], length, replicate, append_assoc, ap, ap₂, sym}
use Rattle.std.specs.List.{flat_map}
use Rattle.des_passwords.specs.Pkcs12.{big_endian, bmp_string}
use Rattle.des_passwords.proofs.BlocksOfTexts.{raised_copies, both_raised}
use Rattle.des_passwords.proofs.pkcs12.write_a.Goals as goal

-- D, S and P are hashed, one after the other
pub returns-clause-a : goal.returns-clause-a
returns-clause-a g c =
    let salt : List ℕ = c.args.salt.now in
    let password : List ℕ = c.args.password.now in
    let d = replicate 64 c.args.id in
    let first = c.add_blocks.ensures d (c.add.ensures [] c.new-hash.ensures) in
    let hashed = c.write_digest.ensures _ (c.add_blocks-2.ensures _ first) in
    let s = ap₂ (λ (text left : List ℕ). raised_copies c.args.b text left ((length text + 63) / 64)) c.new.ensures.all c.new.ensures.rest in
    let p = ap₂ (λ (text left : List ℕ). raised_copies c.args.b (flat_map big_endian text) (flat_map big_endian left)
    ((length (flat_map big_endian text) + 63) / 64)) c.new-2.ensures.all c.new-2.ensures.left in
    c.repeat.ensures.repeated _
    (hashed
    ∙ ap g.H.HashFunction.digest
    (ap₂ (λ (x y : List ℕ). (d ++ x) ++ y) s p
    ∙ append_assoc d (raised_copies c.args.b salt salt ((length salt + 63) / 64)) _
    ∙ ap (λ (l : List ℕ). d ++ l) (sym (both_raised c.args.b salt (bmp_string password)))))
