use Rattle.std.proofs.Common.{◌≡◌, rules}
use Rattle.std.proofs.lemmas.Int.{to_z-of_z}
use Rattle.des_c.proofs.contexts.cukvashe_internal_encrypt_cbc_to.Goals as goal
use mir.Syntax.{w32}
use mir.Val.{SFits}

pub returns-in-0-clause-accepted : goal.returns-in-0-clause-accepted
returns-in-0-clause-accepted c =
    let fits : SFits w32 c.encrypt_cbc.result = search rules in
    let copied = c.copy_whole.ensures.accepted.0 (search rules) in
    let same : c.copy_whole.new.output ≡ c.args.input.now = c.copy_whole.ensures.made (search rules) in
    let done = c.encrypt_cbc.ensures.accepted.1 (copied.0, rw same copied.1.1) in
    (λ _. copied, λ _. simp to_z-of_z done)

pub returns-in-0-clause-chained : goal.returns-in-0-clause-chained
returns-in-0-clause-chained c =
    let fits : SFits w32 c.encrypt_cbc.result = search rules in
    let same : c.copy_whole.new.output ≡ c.args.input.now = c.copy_whole.ensures.made (search rules) in
    simp to_z-of_z (rw same at c.encrypt_cbc.ensures.chained)

pub returns-in-0-clause-kept : goal.returns-in-0-clause-kept
returns-in-0-clause-kept c failed =
    let fits : SFits w32 c.encrypt_cbc.result = search rules in
    let copied = c.copy_whole.ensures.accepted.0 (search rules) in
    let same : c.copy_whole.new.output ≡ c.args.input.now = c.copy_whole.ensures.made (search rules) in
    let done = c.encrypt_cbc.ensures.accepted.1 (copied.0, rw same copied.1.1) in
    absurd (failed (simp to_z-of_z done))
