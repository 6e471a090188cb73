-- Structs of slices take few bytes.
use Rattle.std.proofs.Common.{ℕ, ◌+◌, ◌*◌, ◌≤◌, max, arith}
use prog.Memory.{up}

-- padding takes no more than the alignment
up-le : (k e : ℕ) → up k e ≤ e + k
up-le k e = omega arith

-- the slices of a pass
pub pass_slices-le : (align size : ℕ) → align ≤ 64 → size ≤ 32
    → up (max align 1) (up 1 (up align 0 + 112 * size) + 1) ≤ 4096
pass_slices-le align size gaps few =
    let first : ℕ = up align 0 + 112 * size in
    omega (arith, up-le align 0, up-le 1 first, up-le (max align 1) (up 1 first + 1))

-- the keys of lanes
pub lane_keys-le : (align size : ℕ) → align ≤ 64 → size ≤ 32
    → up (max (max align 1) 1)
    (up 1 (up (max align 1) 0 + 3 * up (max align 1) (up 1 (up align 0 + 112 * size) + 1)) + 1) ≤ 16384
lane_keys-le align size gaps few =
    let pass : ℕ = up (max align 1) (up 1 (up align 0 + 112 * size) + 1) in
    let passes : ℕ = up (max align 1) 0 + 3 * pass in
    omega (
      arith,
      pass_slices-le align size gaps few,
      up-le (max align 1) 0,
      up-le 1 passes,
      up-le (max (max align 1) 1) (up 1 passes + 1),
    )
