use Rattle.des.specs.Bits.{bits_of_bytes}
use Rattle.des_uses.proofs.ReversedSchedules.{HoldRoundKeys-reversed}
use Rattle.des_uses.proofs.partners.round_keys_of_partner.Goals as goal

-- the second key is a partner, so its round keys are those of the first in the opposite order
pub returns-clause-of_key : goal.returns-clause-of_key
returns-clause-of_key c =
    rw c.reverse.ensures.after
    (HoldRoundKeys-reversed c.round_keys.result.now (bits_of_bytes c.args.key.now) (bits_of_bytes c.args.partner.now)
    (c.is_partner.ensures.reversed_round_keys.0 c.if-not-is_partner.false)
    (c.round_keys.ensures.of_key c.args.key.now c.new.ensures.made))
