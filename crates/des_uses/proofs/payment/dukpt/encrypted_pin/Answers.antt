use Rattle.std.proofs.Common.{◌≡◌, ℕ, List, ap, ◌∙◌}
use Rattle.des_payment.specs.Dukpt.{initial_key, pin_key, transaction_key}
use Rattle.des_payment.specs.PinBlocks.{IsFormat0}
use Rattle.des_uses.proofs.payment.dukpt.encrypted_pin.Goals as goal

-- the block in clear is the one that was made, and the cipher's relation is that of the PIN key
pub returns-clause-block : goal.returns-clause-block
returns-clause-block c =
    let serial : List ℕ = c.args.serial.now in
    let key : c.pin_key-key.result ≡ pin_key (transaction_key (initial_key c.args.base.now serial) serial) =
    c.pin_key-key.ensures
    ∙ ap pin_key (c.transaction_key.ensures ∙ ap (λ initial. transaction_key initial serial) c.initial_key.ensures) in
    let clear : IsFormat0 c.args.pin.now c.args.account.now c.in_ok-block.block =
    (rw c.in_ok-new.ensures.pin at c.in_ok-block.ensures.block.0) in
    (c.in_ok-block.block, clear, rw (← key) (c.encrypt_block.ensures.enciphers c.pin_key-key.result c.new-2.ensures.made))
