-- The registers give the key of the next serial number that is a transaction's.
use Rattle.std.proofs.Common.{ℕ, ◌^◌, ◌<◌, List, drop, ap, ◌∙◌, subst, arith}
use Rattle.std.proofs.Math.ListN.{length-drop}
use Rattle.std.proofs.lemmas.List.Elements.{All-drop}
use Rattle.des_payment.specs.Dukpt.{last_bytes}
use Rattle.des_payment.specs.Terminals.{key_of, HasFutureKeys}
use Rattle.des.specs.Laws.BlockBits.{from_be_bytes-lt}
use Rattle.des_payment.proofs.NextTransaction.{last_bytes-with_counter, next-usable, next-future}
use Rattle.des_payment.proofs.terminal.Terminal.next_key.Goals as goal

pub returns-in-Some-clause-key : goal.returns-in-Some-clause-key
returns-in-Some-clause-key c initial has =
    let serial : List ℕ = c.args.self.now.serial in
    let old : ℕ = last_bytes serial in
    let next = c.in-Some.ensures.next in
    let low : old < 2 ^ 64 =
    from_be_bytes-lt (drop 2 serial)
    (omega (arith, length-drop 2 serial), All-drop (λ b. b < 256) 2 serial c.are_bytes.ensures) in
    let is = c.last_bytes.ensures ∙ ap last_bytes next.1.1
    ∙ last_bytes-with_counter serial next.0 (omega arith) low next.1.0.usable.0 in
    let usable = next-usable old c.last_bytes.result next.0 next.1.0 is in
    let before = next-future old c.last_bytes.result next.0 next.1.0 is initial c.args.self.now.keys has in
    c.take_key-key.ensures.taken initial usable before ∙ ap (key_of initial) c.last_bytes.ensures

pub returns-in-Some-clause-keys : goal.returns-in-Some-clause-keys
returns-in-Some-clause-keys c initial has =
    let serial : List ℕ = c.args.self.now.serial in
    let old : ℕ = last_bytes serial in
    let next = c.in-Some.ensures.next in
    let low : old < 2 ^ 64 =
    from_be_bytes-lt (drop 2 serial)
    (omega (arith, length-drop 2 serial), All-drop (λ b. b < 256) 2 serial c.are_bytes.ensures) in
    let is = c.last_bytes.ensures ∙ ap last_bytes next.1.1
    ∙ last_bytes-with_counter serial next.0 (omega arith) low next.1.0.usable.0 in
    let usable = next-usable old c.last_bytes.result next.0 next.1.0 is in
    let before = next-future old c.last_bytes.result next.0 next.1.0 is initial c.args.self.now.keys has in
    subst (λ (last : ℕ). HasFutureKeys initial last c.take_key-key.new.keys) c.last_bytes.ensures
    (c.take_key-key.ensures.future initial usable before)
