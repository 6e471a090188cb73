use Rattle.std.proofs.Common.{◌≡◌, ℕ, nat_le, if◌then◌else◌, List, sym, ap, ◌∙◌, rules, tests}
use Rattle.std.specs.Result.{result_err}
use Rattle.des_payment.specs.PinVerification.{pvv_fault}
use Rattle.des_c.specs.VerificationStatuses.{status_of}
use Rattle.des_c.specs.Statuses.{status_after}
use Rattle.des_c.proofs.payment.pin_verification.verified_value.Goals as goal

-- a number above 6 is as good as 0
kept : (account : List ℕ) (index : ℕ)
    → pvv_fault account (if nat_le index 6 then index else 0) ≡ pvv_fault account index
kept account index = search (tests, rules)

pub returns-in-Ok-clause-fault : goal.returns-in-Ok-clause-fault
returns-in-Ok-clause-fault c = λ some.
    let same : pvv_fault c.args.account.now c.index_of-index.result ≡ pvv_fault c.args.account.now c.args.index =
    ap (pvv_fault c.args.account.now) c.index_of-index.ensures ∙ kept c.args.account.now c.args.index in
    let told : result_err c.verify_pvv.result ≡ pvv_fault c.args.account.now c.args.index =
    c.verify_pvv.ensures.fault (λ none. some (sym same ∙ none)) ∙ same in
    let status = c.verified.ensures ∙ ap (status_after status_of) told in
    search (rules, status)
