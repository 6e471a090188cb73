use Rattle.std.proofs.Common.{refl, ap, false, ◌≡◌}
use Rattle.std.proofs.lemmas.Bool.{false_from_ne_true}
use Rattle.std.proofs.lemmas.Str.{is_utf8-from_IsUtf8, IsUtf8-from_is_utf8}
use Rattle.std.specs.Str.{chars, is_utf8}
use Rattle.des_passwords.specs.BmpStrings.{characters_left}
use Rattle.des_passwords.specs.Pkcs12.{characters_of}
use Rattle.des_passwords.proofs.bmp_string.Characters.new.Goals as goal

pub returns-in-Ok : goal.returns-in-Ok
unfolding characters_left characters_of
returns-in-Ok c = rw (is_utf8-from_IsUtf8 c.args.password.now c.in-Ok.ensures.cases.1) (ap chars c.in-Ok.ensures.cases.0)

pub returns-in-Err : goal.returns-in-Err
unfolding characters_left characters_of
returns-in-Err c =
    let none : is_utf8 c.args.password.now ≡ false =
    false_from_ne_true (is_utf8 c.args.password.now)
    (λ yes. c.in-Err.ensures.cases.0 (IsUtf8-from_is_utf8 c.args.password.now yes)) in
    rw none refl
