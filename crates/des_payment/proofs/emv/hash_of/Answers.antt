use Rattle.std.proofs.Common.{◌≡◌, ℕ, ◌+◌, ◌-◌, ◌%◌, List, ◌++◌, length, take, drop, replicate, IsTrue, sym, ap, ◌∙◌, subst, arith}
use Rattle.std.proofs.lemmas.List.{length-append, take-map, drop-map}
use Rattle.sha1.specs.Sha1.{sha1}
use Rattle.des_payment.specs.Digits.{bytes_of}
use Rattle.des_payment.specs.Texts.{are_digits, values}
use Rattle.des_payment.proofs.EvenDigits.{even_digits, even_digits-taken, are_digits-padded, are_digits-even}
use Rattle.des_payment.proofs.FieldDigits.{AreDigits, AreDigits-values}
use Rattle.des_payment.proofs.RightmostDigits.{are_digits-both}
use Rattle.des_payment.proofs.emv.hash_of.Goals as goal

pub to_values-requires : goal.to_values-requires
to_values-requires c =
    let account : List ℕ = c.args.account.now in
    let sequence : List ℕ = c.args.sequence.now in
    subst (λ (text : List ℕ). IsTrue (are_digits text)) (sym c.padded_digits-digits.ensures)
    (are_digits-padded (account ++ sequence) 16 (19 - length account)
    (are_digits-both account sequence c.requires.account.2 c.requires.sequence.2))

-- the part of the values of the longer text
part : (account sequence text digits : List ℕ) → length sequence ≡ 2
    → text ≡ replicate 16 48 ++ (account ++ sequence) ++ replicate (19 - length account) 48 → digits ≡ values text
    → take (length account + 18 - (16 - length account % 2)) (drop (16 - length account % 2) digits)
    ≡ values (even_digits (account ++ sequence))
part account sequence text digits two padded is =
    let start : ℕ = 16 - length account % 2 in
    let size : ℕ = length account + 18 - start in
    let count : length (account ++ sequence) ≡ length account + 2 = omega (arith, length-append account sequence) in
    ap (λ (xs : List ℕ). take size (drop start xs)) (is ∙ ap values padded)
    ∙ ap (take size) (drop-map (λ character. character - 48) start _)
    ∙ take-map (λ character. character - 48) size _
    ∙ ap values (even_digits-taken (account ++ sequence) (replicate (19 - length account) 48) start size
    (omega (arith, count)) (omega (arith, count)))

pub write_bytes-requires-clause-digits : goal.write_bytes-requires-clause-digits
write_bytes-requires-clause-digits c =
    let account : List ℕ = c.args.account.now in
    let sequence : List ℕ = c.args.sequence.now in
    subst AreDigits
    (sym (part account sequence c.padded_digits-digits.result c.to_values.new.text
    (omega (arith, c.requires.sequence.0, c.requires.sequence.1)) c.padded_digits-digits.ensures c.to_values.ensures))
    (AreDigits-values (even_digits (account ++ sequence))
    (are_digits-even (account ++ sequence)
    (are_digits-both account sequence c.requires.account.2 c.requires.sequence.2)))

pub returns : goal.returns
returns c =
    c.digest.ensures
    ∙ ap sha1
    (c.write_bytes.ensures.bytes
    ∙ ap bytes_of
    (part c.args.account.now c.args.sequence.now c.padded_digits-digits.result c.to_values.new.text
    (omega (arith, c.requires.sequence.0, c.requires.sequence.1)) c.padded_digits-digits.ensures c.to_values.ensures))
