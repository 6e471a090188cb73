-- The next serial number that is a transaction's.
use Rattle.std.proofs.Common.{◌≡◌, ℕ, ◌+◌, ◌-◌, ◌*◌, ◌/◌, ◌%◌, ◌^◌, ◌<◌, List, ◌++◌, length, take, drop, ap, sym, ◌∙◌, subst, arith, length-take-le}
use Rattle.std.specs.Int.{w64, to_be_bytes, from_be_bytes}
use Rattle.std.proofs.Math.Seq.{drop-append_seam}
use Rattle.std.proofs.lemmas.Nat.{mod_low, shr_split, from_be_bytes-to_be_bytes_8}
use Rattle.des_payment.specs.Dukpt.{last_bytes, register_of, with_counter, IsUsable, IsNextCounter}
use Rattle.des_payment.specs.Terminals.{HasFutureKeys}
use Rattle.des_payment.proofs.FutureSteps.{skip_to}

-- the last eight bytes of a serial number with other ones
pub last_bytes-changed : (front : List ℕ) (last : ℕ) → length front ≡ 2 → last < 2 ^ 64
    → from_be_bytes w64 (drop 2 (front ++ to_be_bytes w64 last)) ≡ last
last_bytes-changed front last two low =
    ap (λ (n : ℕ). from_be_bytes w64 (drop n (front ++ to_be_bytes w64 last))) (sym two)
    ∙ ap (from_be_bytes w64) (drop-append_seam front (to_be_bytes w64 last))
    ∙ from_be_bytes-to_be_bytes_8 last low

-- each counter fits
pub counted-fits : (last counter : ℕ) → last < 2 ^ 64 → counter < 2 ^ 21 → last - last % 2 ^ 21 + counter < 2 ^ 64
counted-fits last counter low small = omega (arith, low, small)

pub last_bytes-with_counter : (serial : List ℕ) (counter : ℕ) → length serial ≡ 10 → last_bytes serial < 2 ^ 64
    → counter < 2 ^ 21 → last_bytes (with_counter serial counter) ≡ register_of serial + counter
last_bytes-with_counter serial counter ten low small =
    last_bytes-changed (take 2 serial) (register_of serial + counter) (length-take-le 2 serial (omega arith))
    (counted-fits (last_bytes serial) counter low small)

module _ (old new counter : ℕ) (is_next : IsNextCounter (old % 2 ^ 21) counter)
    (is : new ≡ old - old % 2 ^ 21 + counter) where
  sum : new ≡ old / 2 ^ 21 * 2 ^ 21 + counter
  sum = omega (arith, shr_split old 21)

  pub next-counter : new % 2 ^ 21 ≡ counter
  next-counter = ap (λ (x : ℕ). x % 2 ^ 21) sum ∙ mod_low (old / 2 ^ 21) 21 counter is_next.usable.0

  pub next-usable : IsUsable (new % 2 ^ 21)
  next-usable = subst IsUsable (sym next-counter) is_next.usable

  -- the future keys are those before it
  pub next-future : (initial : List ℕ) (keys : List (List ℕ)) → HasFutureKeys initial old keys
      → HasFutureKeys initial (new - 1) keys
  next-future initial keys has =
      let r : ℕ = old / 2 ^ 21 in
      let c : ℕ = old % 2 ^ 21 in
      let d : ℕ = counter - 1 - c in
      let here : HasFutureKeys initial (r * 2 ^ 21 + c) keys =
      subst (λ (x : ℕ). HasFutureKeys initial x keys) (sym (shr_split old 21)) has in
      let there : HasFutureKeys initial (r * 2 ^ 21 + (c + d)) keys =
      skip_to initial keys r c d (omega (arith, is_next.after, is_next.usable.0))
      (λ other after within. is_next.least other after (omega (arith, is_next.after))) here in
      let before : r * 2 ^ 21 + (c + d) ≡ new - 1 = omega (arith, sum, is_next.after) in
      subst (λ (x : ℕ). HasFutureKeys initial x keys) before there
