use Rattle.std.proofs.Common.{ap, ◌∙◌, arith, zero-add}
use Rattle.des.specs.Cbc.{xor_blocks}
use Rattle.des.proofs.XoredBlocks.{xor_blocks-from_bytes}
use Rattle.des_key_wraps.proofs.tkw.xor_number.Goals as goal

pub returns : goal.returns
returns c =
    xor_blocks-from_bytes c.xor_from.new.bytes c.args.word.now c.to_be_bytes.result c.xor_from.auto.bytes (omega arith)
    (λ k within. rw (zero-add k) at (c.xor_from.ensures k within))
    ∙ ap (xor_blocks c.args.word.now) c.to_be_bytes.ensures
