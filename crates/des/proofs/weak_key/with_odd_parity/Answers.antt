use Rattle.des.proofs.ParityBits.{IsTheOne-odd_parity}
use Rattle.des.proofs.weak_key.with_odd_parity.Goals as goal

-- `met` has what the contract of `byte_with_odd_parity` says of each byte
pub returns : goal.returns
returns c =
    IsTheOne-odd_parity c.args.key.now c.map.result c.told-key c.fits-key c.map.ensures.items.long
    (λ i below. (c.map.ensures.items.at i 0 0 below).2.met)
