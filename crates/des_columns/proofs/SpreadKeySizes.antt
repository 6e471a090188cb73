-- Keys that are spread over slices take few bytes.
use Rattle.std.proofs.Common.{ℕ, ◌+◌, ◌*◌, ◌≤◌, max, arith}
use Rattle.des_fast.proofs.SliceSizes.{lane_keys-le}
use prog.Memory.{up}

-- padding takes no more than the alignment
up-le : (k e : ℕ) → up k e ≤ e + k
up-le k e = omega arith

abbrev lane_keys : ℕ → ℕ → ℕ
lane_keys align size =
    up (max (max align 1) 1) (up 1 (up (max align 1) 0 + 3 * up (max align 1) (up 1 (up align 0 + 112 * size) + 1)) + 1)

pub spread_keys-le : (align size : ℕ) → align ≤ 64 → size ≤ 32
    → up (max (max (max align 1) 1) (max (max (max align 1) 1) 1))
    (up (max (max align 1) 1) (up (max (max align 1) 1) 0 + lane_keys align size) + lane_keys align size) ≤ 65536
spread_keys-le align size gaps few =
    let each : ℕ = max (max align 1) 1 in
    let lanes : ℕ = lane_keys align size in
    omega (
      arith,
      lane_keys-le align size gaps few,
      up-le each 0,
      up-le each (up each 0 + lanes),
      up-le (max each (max each 1)) (up each (up each 0 + lanes) + lanes),
    )
