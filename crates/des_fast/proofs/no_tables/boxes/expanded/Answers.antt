use Rattle.std.proofs.Common.{ℕ, List, ◌++◌, slice_index_or, flat_map, refl, ap, ap₂, ◌∙◌, arith}
use Rattle.des.specs.Bits.{bits_of, bits_of_bytes, select}
use Rattle.des.specs.Tables.{expansion, permutation}
use Rattle.des_fast.specs.Groups.{positions_in_word}
use Rattle.des_fast.proofs.ByteTests.{bits_of-tested}
use Rattle.des_fast.proofs.GroupBytes.{in_order-append}
use Rattle.des_fast.proofs.no_tables.boxes.expanded.Goals as goal

pub returns : goal.returns
unfolding bits_of bits_of_bytes select
returns c =
    let twice : List ℕ = c.args.entries ++ c.args.entries in
    let e : ℕ → ℕ = λ i. slice_index_or twice i 0 in
    ap₂ ◌++◌ (bits_of-tested (e 3) (e 5) (e 4) (e 2) (e 6) (e 7) 3 0 1 0 3 3)
    (ap₂ ◌++◌ (bits_of-tested (e 2) (e 0) (e 5) (e 6) (e 3) (e 4) 3 3 1 1 2 3)
    (ap₂ ◌++◌ (bits_of-tested (e 1) (e 0) (e 4) (e 6) (e 5) (e 7) 2 2 0 0 2 0)
    (ap₂ ◌++◌ (bits_of-tested (e 1) (e 2) (e 5) (e 7) (e 4) (e 6) 3 1 3 2 2 2)
    (ap₂ ◌++◌ (bits_of-tested (e 6) (e 7) (e 1) (e 3) (e 2) (e 0) 3 3 0 0 3 3)
    (ap₂ ◌++◌ (bits_of-tested (e 3) (e 4) (e 2) (e 7) (e 1) (e 0) 2 3 2 1 2 2)
    (ap₂ ◌++◌ (bits_of-tested (e 5) (e 7) (e 3) (e 0) (e 1) (e 2) 2 0 1 1 3 1)
    (ap₂ ◌++◌ (bits_of-tested (e 4) (e 6) (e 1) (e 0) (e 3) (e 5) 2 2 1 0 3 0) refl)))))))
    ∙ ap (λ (es : List ℕ). select positions_in_word (select expansion (select permutation (flat_map (bits_of 4) es))))
    (in_order-append c.args.entries c.args.entries (omega arith))
