use Rattle.std.proofs.Common.{rules, ℕ, ◌≡◌, ◌∙◌, ◌∷◌, List, [], suc, length, take, drop, slice_index_or, ◌-◌, ◌<◌, ap, sym}
use Rattle.std.proofs.lemmas.Bool.{eqb-true}
use Rattle.std.proofs.lemmas.List.{nil_from_length}
use Rattle.des_passwords.specs.Pkcs12.{copies}
use Rattle.des_passwords.specs.declared.pkcs12.Bytes.{Bytes}
use Rattle.des_passwords.proofs.CopiedTexts.{copies-next, copies-restart}
use Rattle.des_passwords.proofs.pkcs12.Bytes.next.Goals as goal
use Rattle.des_passwords.proofs.pkcs12.Bytes.next.Goals.{then-is_empty, else-is_empty}

-- what comes first of bytes
abbrev first_of : List ℕ → List ℕ → ℕ → List ℕ
first_of text rest n = slice_index_or rest 0 0 ∷ copies text (take (length rest - 1) (drop 1 rest)) n

pub returns-clause-next : goal.returns-clause-next
returns-clause-next c = λ n.
    let text : List ℕ = c.args.self.now.all.now in
    let rest : List ℕ = c.args.self.now.rest.now in
    elim c.if-is_empty.branch [
      | then-is_empty w ↦
          let none : rest ≡ [] = nil_from_length rest (eqb-true (length rest) 0 (sym c.is_empty.ensures ∙ w.if-is_empty.true)) in
          ap (λ (l : List ℕ). copies text l (suc n)) none
          ∙ copies-restart text (suc n) c.requires
          ∙ copies-next text text n c.requires
          ∙ sym (ap (λ (bytes : Bytes). first_of text bytes.rest.now n) w.self-is)
      | else-is_empty w ↦
          let some : 0 < length rest = search (rules, c.is_empty.ensures, w.if-is_empty.false) in
          copies-next text rest n some
          ∙ sym (ap (λ (bytes : Bytes). first_of text bytes.rest.now n) w.self-is)
    ]
