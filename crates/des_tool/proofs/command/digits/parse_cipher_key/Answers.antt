use Rattle.std.proofs.Common.{◌≡◌, length, sym, ap, refl, ◌∙◌}
use Rattle.des_tool.proofs.command.digits.parse_cipher_key.Goals as goal

-- the cipher took the key, so it has the length
pub returns-clause-key : goal.returns-clause-key
returns-clause-key g c =
    let key = c.in_ok-parse_key.ensures.key in
    let size : length c.parse_key.new.key ≡ g.C.KeySizeUser.KEY_SIZE =
    c.new_from_slice.ensures.accepted.0 (rw c.unwrap.ensures refl) in
    (sym (ap length key) ∙ size, c.in_ok-parse_key.ensures.is_key.1)
