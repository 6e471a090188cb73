use Rattle.std.proofs.Common.{refl, lit≤}
use Rattle.des_mac.proofs.Absorbing.{Absorbed-none}
use Rattle.des_mac.proofs.progress.Progress.new.Goals as goal

pub returns : goal.returns
returns c = λ encryption. record { fits = lit≤ tt; absorbed = Absorbed-none _ _ refl }
