use Rattle.std.proofs.Common.{◌≡◌, ℕ, suc, ◌-◌, ◌*◌, ◌%◌, ◌^◌, bit_or, sym, ap, ◌∙◌, arith}
use Rattle.std.specs.Int.{bit_at}
use Rattle.std.proofs.lemmas.Nat.{one_shl}
use Rattle.std.proofs.lemmas.Nat.Bits.{shr_and_one}
use Rattle.des_payment.specs.Dukpt.{ones_below, derived}
use Rattle.des_payment.proofs.Derivations.{derived-one, derived-zero, derived-end}
use Rattle.des_payment.proofs.dukpt.transaction_key.Goals as goal

pub loop-place-preserved-then-counter-place-eq1 : goal.loop-place-preserved-then-counter-place-eq1
loop-place-preserved-then-counter-place-eq1 c =
    let counter : ℕ = c.last_bytes-last.result % 2 ^ 21 in
    let n : ℕ = c.loop-place.place - 1 in
    let place : c.loop-place.place ≡ suc n = omega arith in
    let one : bit_at counter n ≡ 1 = sym (shr_and_one counter n) ∙ c.if-counter-place-eq1.true in
    let set : ℕ = bit_or c.loop-place.register (1 * 2 ^ n % 2 ^ 64) in
    let is : set ≡ bit_or c.loop-place.register (2 ^ n) =
    ap (bit_or c.loop-place.register) (one_shl n 64 (omega arith)) in
    ap (derived (ones_below n counter) set) c.next_key-key.ensures
    ∙ sym (derived-one counter c.loop-place.register c.loop-place.key n c.loop-place.place set place one is)
    ∙ c.loop-place.invariant

pub loop-place-preserved : goal.loop-place-preserved
loop-place-preserved c =
    let counter : ℕ = c.last_bytes-last.result % 2 ^ 21 in
    let n : ℕ = c.loop-place.place - 1 in
    let place : c.loop-place.place ≡ suc n = omega arith in
    sym (derived-zero counter c.loop-place.register c.loop-place.key n c.loop-place.place place
    (λ one. c.if-counter-place-eq1.false (shr_and_one counter n ∙ one)))
    ∙ c.loop-place.invariant

-- all bits are done
pub returns : goal.returns
returns c =
    let counter : ℕ = c.last_bytes-last.result % 2 ^ 21 in
    sym (derived-end c.loop-place.place counter c.loop-place.register c.loop-place.key (omega arith))
    ∙ c.loop-place.invariant
    ∙ ap (λ (last : ℕ). derived (ones_below 21 (last % 2 ^ 21)) (last - last % 2 ^ 21) c.args.initial.now)
    c.last_bytes-last.ensures
