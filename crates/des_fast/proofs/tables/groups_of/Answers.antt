use Rattle.std.proofs.Common.{List, ℕ, slice_index, slice_index_or, ap, ◌∙◌, arith}
use Rattle.des.specs.Bits.{bits_of}
use Rattle.des_fast.proofs.GroupBytes.{in_order-lt, bits_of-in_order, rotated_bytes-in_order}
use Rattle.des_fast.proofs.tables.groups_of.Goals as goal

pub returns-clause-within : goal.returns-clause-within
returns-clause-within c i d below =
    rw (ap (λ (bytes : List ℕ). slice_index_or bytes i d)
    (rotated_bytes-in_order c.args.word _ _ (omega arith) c.rotate_right-by_two.ensures c.rotate_right-by_five.ensures))
    (in_order-lt c.args.word c.requires i d below)

pub returns-clause-groups : goal.returns-clause-groups
returns-clause-groups c i below =
    ap (λ (bytes : List ℕ). bits_of 6 (slice_index bytes i))
    (rotated_bytes-in_order c.args.word _ _ (omega arith) c.rotate_right-by_two.ensures c.rotate_right-by_five.ensures)
    ∙ bits_of-in_order c.args.word i below
