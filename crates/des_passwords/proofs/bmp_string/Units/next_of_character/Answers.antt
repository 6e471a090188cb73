use Rattle.std.proofs.Common.{◌≡◌, subst, sym, ◌++◌, ◌∷◌, ℕ, suc, Option}
use Rattle.des_passwords.specs.BmpStrings.{all_units, characters_left, second_of}
use Rattle.des_passwords.specs.Pkcs12.{copies, units_of}
use Rattle.des_passwords.proofs.PasswordUnits.{next_character, next_end}
use Rattle.des_passwords.proofs.bmp_string.Units.next_of_character.Goals as goal

pub returns-in-Some-clause-next : goal.returns-in-Some-clause-next
returns-in-Some-clause-next c = λ n.
    let units = c.args.self.now in
    let made = c.units_of_character-unit.result in
    subst (λ (second : Option ℕ). copies (all_units units) (second_of second ++ units_of (characters_left units.rest)) (suc n)
    ≡ made.0 ∷ copies (all_units units) (second_of made.1 ++ units_of (characters_left c.in-Some.rest)) n)
    (sym c.requires)
    (next_character _ _ _ _ _ made.1 n c.in-Some.ensures c.units_of_character-unit.ensures)

pub returns-in-None-clause-next : goal.returns-in-None-clause-next
returns-in-None-clause-next c = λ n.
    let units = c.args.self.now in
    subst (λ (second : Option ℕ). copies (all_units units) (second_of second ++ units_of (characters_left units.rest)) (suc n)
    ≡ 0 ∷ copies (all_units units) (second_of second ++ units_of (characters_left units.all)) n)
    (sym c.requires)
    (next_end (characters_left units.all) _ n c.in-None.ensures)
