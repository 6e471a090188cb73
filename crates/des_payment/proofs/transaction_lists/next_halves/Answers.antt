use Rattle.std.proofs.Common.{ℕ, List, [], length, get_or, ap, ap₂, ◌∙◌, arith}
use Rattle.des.specs.Des.{encryption}
use Rattle.des.specs.Blocks.{part}
use Rattle.des.specs.Cbc.{xor_blocks}
use Rattle.des_payment.proofs.Lanes.{zipped-front}
use Rattle.des_payment.proofs.transaction_lists.next_halves.Goals as goal

-- the blocks of the registers are encrypted under the left halves
pub returns : goal.returns
returns g c k below =
    let in_keys = c.requires.same in
    c.xored_blocks.ensures k (omega (arith, in_keys))
    ∙ ap (λ (block : List ℕ). xor_blocks block (part 2 (get_or c.args.keys.now k [])))
    (zipped-front encryption (length c.args.keys.now) c.left_halves-halves.result c.register_blocks-blocks.result
    c.encrypt_each_of.new.blocks _ (omega (arith, in_keys, c.requires.few))
    (omega (arith, in_keys, c.requires.few)) c.encrypt_each_of.ensures k (omega (arith, in_keys))
    ∙ ap₂ encryption (c.left_halves-halves.ensures k (omega (arith, in_keys))) (c.register_blocks-blocks.ensures k below))
