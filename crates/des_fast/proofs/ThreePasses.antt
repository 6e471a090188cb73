-- Three passes, one after another.
use Rattle.std.proofs.Common.{◌≡◌, ℕ, List, [], ◌∷◌, Bool, length, refl, ap, sym, ◌∙◌, arith}
use Rattle.std.proofs.Math.ListN.{set}
use Rattle.std.proofs.Math.Path.{fun_ext}
use Rattle.des.specs.Bits.{bits_of_bytes}
use Rattle.des.specs.Blocks.{block_of_bits}
use Rattle.des.specs.Rounds.{through_rounds, block_by_keys}
use Rattle.des.specs.Triple.{through}
use Rattle.des.specs.Laws.BlockBits.{bits_of_bytes-block_of_bits}
use Rattle.des.specs.Laws.RoundsUndone.{length-through_rounds}
use Rattle.des_fast.specs.Passes.{block_through_passes}

-- the bits of the block that a pass makes
bits_of_bytes-block_by_keys : (keys : List (List Bool)) (block : List ℕ)
    → bits_of_bytes (block_by_keys keys block) ≡ through_rounds keys (bits_of_bytes block)
bits_of_bytes-block_by_keys keys block =
    bits_of_bytes-block_of_bits (through_rounds keys (bits_of_bytes block))
    (length-through_rounds keys (bits_of_bytes block))

-- three passes are three answers
pub block_through_passes-three : (first second third : List (List Bool))
    → block_through_passes (first ∷ second ∷ third ∷ [])
    ≡ through (block_by_keys first) (block_by_keys second) (block_by_keys third)
block_through_passes-three first second third =
    fun_ext (λ (block : List ℕ).
    let bits : List Bool = bits_of_bytes block in
    let one : bits_of_bytes (block_by_keys first block) ≡ through_rounds first bits = bits_of_bytes-block_by_keys first block in
    let two : bits_of_bytes (block_by_keys second (block_by_keys first block))
    ≡ through_rounds second (through_rounds first bits) =
    bits_of_bytes-block_by_keys second (block_by_keys first block) ∙ ap (through_rounds second) one in
    ap (λ (bits : List Bool). block_of_bits (through_rounds third bits)) (sym two))

-- a list of three, of which each is written
pub three-written : {X : Type 0} (xs : List X) (x y z : X) → length xs ≡ 3
    → set (set (set xs 0 x) 1 y) 2 z ≡ x ∷ y ∷ z ∷ []
three-written [] x y z three = absurd (omega arith)
three-written (a ∷ []) x y z three = absurd (omega arith)
three-written (a ∷ b ∷ []) x y z three = absurd (omega arith)
three-written (a ∷ b ∷ c ∷ []) x y z three = refl
three-written (a ∷ b ∷ c ∷ d ∷ xs) x y z three = absurd (omega arith)
