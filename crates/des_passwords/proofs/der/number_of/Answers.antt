use Rattle.std.proofs.Common.{◌∙◌, ap, ℕ, List}
use Rattle.std.specs.Int.{w32, from_be_bytes}
use Rattle.des_passwords.proofs.DerNumbers.{behind_zeros}
use Rattle.des_passwords.proofs.der.number_of.Goals as goal

pub returns : goal.returns
returns c =
    let copied = c.copy_from_slice in
    let written = behind_zeros 4 c.args.digits.now copied.new.self c.requires copied.ensures.after in
    c.from_be_bytes.ensures ∙ ap (λ (bytes : List ℕ). from_be_bytes w32 bytes) written
