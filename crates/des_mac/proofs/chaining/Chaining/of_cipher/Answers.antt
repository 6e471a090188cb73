use Rattle.std.proofs.Common.{refl}
use Rattle.des_mac.proofs.Absorbing.{Absorbed-none}
use Rattle.des_mac.proofs.chaining.Chaining.of_cipher.Goals as goal

pub returns : goal.returns
returns g c = λ key is_key made. record { is_key = is_key; made = made; absorbed = Absorbed-none _ _ refl }
