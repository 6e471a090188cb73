-- All registers are written from the initial key, at counter 0.
use Rattle.std.proofs.Common.{◌≡◌, ℕ, ◌-◌, ◌%◌, ◌^◌, List, take, ap, sym, ◌∙◌, subst, arith, length-take-le}
use Rattle.des_payment.specs.Dukpt.{last_bytes}
use Rattle.des_payment.specs.Terminals.{HasFutureKeys}
use Rattle.des_payment.proofs.NextTransaction.{last_bytes-changed}
use Rattle.des_payment.proofs.FutureTaken.{first}
use Rattle.des_payment.proofs.terminal.Terminal.new.Goals as goal

pub returns-clause-keys : goal.returns-clause-keys
returns-clause-keys c =
    let serial : List ℕ = c.args.serial.now in
    let keys : List (List ℕ) = c.write_below.new.keys in
    let register : ℕ = c.last_bytes-last.result - c.last_bytes-last.result % 2 ^ 21 in
    let made : HasFutureKeys c.args.initial.now register keys =
    first c.args.initial.now keys register (omega arith) c.write_below.ensures.written in
    let is : last_bytes c.with_last_bytes.result ≡ register =
    ap last_bytes c.with_last_bytes.ensures
    ∙ last_bytes-changed (take 2 serial) register (length-take-le 2 serial (omega arith)) (omega arith) in
    subst (λ (last : ℕ). HasFutureKeys c.args.initial.now last keys) (sym is) made
