use Rattle.std.proofs.Common.{◌≡◌, ℕ, ◌+◌, ◌*◌, ◌/◌, ◌%◌, ◌<◌, List, length, get_or, ◌∙◌, arith, zero, suc, ◌-◌, [], ◌∷◌}
use Rattle.std.proofs.Math.ListN.{get_or-append}
use Rattle.std.proofs.lemmas.List.{get_or-append_right}
use Rattle.std.specs.List.{flat_map}
use Rattle.des_modes.proofs.xored.xor_blocks_from.Goals as goal

abbrev joined : List (List ℕ) → List ℕ
joined blocks = flat_map (λ block. block) blocks

-- byte 8 j + r of blocks is byte r of block j
get_or-joined : (blocks : List (List ℕ)) → ((k : ℕ) → k < length blocks → length (get_or blocks k []) ≡ 8)
    → (j r n : ℕ) → n ≡ 8 * j + r → j < length blocks → r < 8
    → get_or (joined blocks) n 0 ≡ get_or (get_or blocks j []) r 0
get_or-joined [] widths j r n same within below = absurd (omega arith)
get_or-joined (block ∷ blocks) widths zero r n same within below =
    grind (arith, get_or-append block (joined blocks) 0 n, widths 0)
get_or-joined (block ∷ blocks) widths (suc j) r n same within below =
    get_or-append_right block (joined blocks) 8 n 0 (widths 0 (omega arith)) (omega arith)
    ∙ get_or-joined blocks (λ k inside. widths (suc k) (omega arith)) j r (n - 8) (omega arith) (omega arith) below

-- a byte of the joined blocks is one of the block that it stands in
pub returns : goal.returns
returns c = λ i within.
    let n : ℕ = c.args.from + i in
    let inside : n / 8 < length c.args.blocks.now = omega (arith, c.requires) in
    let byte = get_or-joined c.args.blocks.now c.told-blocks (n / 8) (n % 8) n (omega arith) inside (omega arith) in
    rw (c.as_flattened.ensures.value, byte) at (c.xor_from.ensures i within)
