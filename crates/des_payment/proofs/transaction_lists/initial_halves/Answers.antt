use Rattle.std.proofs.Common.{ap, ◌∙◌, length, arith}
use Rattle.des.specs.TripleCiphers.{ede2_encryption}
use Rattle.des_payment.proofs.Lanes.{mapped-front}
use Rattle.des_payment.proofs.transaction_lists.initial_halves.Goals as goal

-- each block is encrypted under the base key
pub returns : goal.returns
returns g c k below =
    mapped-front (ede2_encryption c.args.base.now) (length c.args.serials.now) c.first_blocks-blocks.result
    c.encrypt_many_of.new.blocks _ (omega (arith, c.requires)) c.encrypt_many_of.ensures k below
    ∙ ap (ede2_encryption c.args.base.now) (c.first_blocks-blocks.ensures k below)
