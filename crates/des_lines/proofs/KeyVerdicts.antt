-- A key of two parts in the form of three is refused by the weak key test.
use Rattle.std.proofs.Common.{ℕ, ◌*◌, ◌≤◌, ◌<◌, List, length, inr, arith}
use Rattle.des.specs.WeakKeys.{IsRefused}
use Rattle.des_lines.specs.Keys.{IsDoubleLength}

pub double-refused : (key : List ℕ) → IsDoubleLength key → IsRefused key
double-refused key double =
    let first : (1 ≤ 1) × (8 * 1 ≤ length key) = (omega arith, omega (arith, double.0)) in
    let third : (1 ≤ 3) × (8 * 3 ≤ length key) = (omega arith, omega (arith, double.0)) in
    let before : 1 < 3 = omega arith in
    inr (1, (3, (first, third, before, double.1)))
