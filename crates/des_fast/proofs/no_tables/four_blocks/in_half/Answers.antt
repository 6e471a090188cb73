use Rattle.std.proofs.Common.{◌/◌, ◌^◌, bit_and, bit_xor}
use Rattle.des_fast.proofs.EachByte.{splat, zipped}
use Rattle.des_fast.proofs.no_tables.four_blocks.in_half.Goals as goal

pub returns : goal.returns
returns c bytes sums masks =
    zipped bit_xor _ _ bytes c.args.sums _ sums
    (zipped bit_and _ _ bytes c.args.first _ masks
    (zipped (λ a b. a / 2 ^ b) _ _ bytes c.args.sums _ sums (splat 4 bytes)))
