use Rattle.std.proofs.Common.{List, ℕ, ◌++◌, [], take, drop, ap, ap₂, ◌∙◌, append-nil, arith, length-append}
use Rattle.std.proofs.lemmas.List.{length-drop, take_all}
use Rattle.des_columns.specs.JavaTripleDes.{digested}
use Rattle.des_columns.proofs.java.key_and_vector.Goals as goal

-- the digests of both halves, all 32 bytes
pub returns-clause-ok : goal.returns-clause-ok
returns-clause-ok c =
    let first : List ℕ = c.digest_half-first.result in
    let second : List ℕ = c.digest_half-second.result in
    c.split.ensures ∙ ap (take 32) c.as_flattened.ensures.value
    ∙ take_all 32 (first ++ (second ++ [])) (omega (arith, length-append first (second ++ []), length-append second []))
    ∙ ap₂ ◌++◌
    (c.digest_half-first.ensures ∙ ap (digested c.args.iterations c.args.password.now) c.first_half.ensures)
    (append-nil second ∙ c.digest_half-second.ensures
    ∙ ap (digested c.args.iterations c.args.password.now)
    (take_all 4 (drop 4 c.args.salt.now) (omega (arith, length-drop 4 c.args.salt.now, c.told-salt))))
