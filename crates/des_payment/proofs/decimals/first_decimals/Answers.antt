use Rattle.std.proofs.Common.{◌≡◌, ℕ, ◌+◌, ◌-◌, ◌<◌, false, not, nat_lt, nat_le, inl, inr, List, ◌++◌, length, map, take, get_or, sym, ap, ◌∙◌, subst, arith}
use mir.Val.{bool_byte}
use Rattle.std.specs.List.{filter, list_all}
use Rattle.std.proofs.lemmas.Bool.{lt-ltb, le-leb, cases_lt}
use Rattle.std.proofs.lemmas.Bool.Decides.{nat_tests}
use Rattle.std.proofs.lemmas.List.{take_all}
use Rattle.des_payment.specs.CardVerification.{is_decimal, is_letter, decimals_first}
use Rattle.des_payment.proofs.BoolBytes.{counted, few_more}
use Rattle.des_payment.proofs.FirstDecimals.{IsWritten, IsWritten-more, IsWritten-all, found-decimal, found-letter, length-decimals_first, are_decimal}
use Rattle.des_payment.proofs.decimals.first_decimals.Goals as goal

-- a digit of ten or more is a letter
letter_is : (digit : ℕ) → nat_le 10 digit ≡ is_letter digit
letter_is digit =
    elim (cases_lt digit 10) [
      | inl below ↦
          let no : nat_le 10 digit ≡ false = grind (arith, nat_tests) in no ∙ sym (ap not (lt-ltb digit 10 below))
      | inr above ↦
          let no : nat_lt digit 10 ≡ false = grind (arith, nat_tests) in le-leb 10 digit above ∙ sym (ap not no)
    ]

pub loop-digit-preserved : goal.loop-digit-preserved
loop-digit-preserved g c =
    let digits : List ℕ = c.args.digits.now in
    let i : ℕ = c.loop-digit.digit-index in
    let digit : ℕ = get_or digits i 0 in
    let within : i < length digits = omega arith in
    record {
      is_written =
          IsWritten-more c.loop-digit.count c.loop-digit.value c.write_at.new.bytes (filter is_decimal (take i digits))
          digit c.loop-digit.invariant.is_written c.write_at.ensures.long
          (λ k inside. c.write_at.ensures.written k (omega (arith, c.loop-digit.invariant.long)))
          (is_decimal digit) (filter is_decimal (take (i + 1) digits))
          (c.loop-digit.count + bool_byte (is_decimal digit))
          (ap (λ (n : ℕ). c.loop-digit.count + n) (counted (is_decimal digit)))
          (found-decimal digits i within);
      long = c.write_at.ensures.long ∙ c.loop-digit.invariant.long;
      few = few_more c.loop-digit.count i (is_decimal digit) c.loop-digit.invariant.few;
    }

pub loop-digit-2-preserved : goal.loop-digit-2-preserved
loop-digit-2-preserved g c =
    let digits : List ℕ = c.args.digits.now in
    let i : ℕ = c.loop-digit-2.digit-index in
    let digit : ℕ = get_or digits i 0 in
    let within : i < length digits = omega arith in
    let front : List ℕ = filter is_decimal digits in
    let less : List ℕ → List ℕ = map (λ digit. digit - 10) in
    let written : ℕ = c.saturating_sub.result in
    record {
      is_written =
          IsWritten-more c.loop-digit-2.count c.loop-digit-2.value c.write_at-in-loop-digit-2.new.bytes
          (front ++ less (filter is_letter (take i digits))) written c.loop-digit-2.invariant.is_written
          c.write_at-in-loop-digit-2.ensures.long
          (λ k inside. c.write_at-in-loop-digit-2.ensures.written k (omega (arith, c.loop-digit-2.invariant.long)))
          (is_letter digit) (front ++ less (filter is_letter (take (i + 1) digits)))
          (c.loop-digit-2.count + bool_byte (nat_le 10 digit))
          (ap (λ (n : ℕ). c.loop-digit-2.count + n) (ap bool_byte (letter_is digit) ∙ counted (is_letter digit)))
          (found-letter front digits i written within (λ letter. c.saturating_sub.ensures));
      long = c.write_at-in-loop-digit-2.ensures.long ∙ c.loop-digit-2.invariant.long;
      few = omega (arith, few_more c.loop-digit-2.count (length digits + i) (nat_le 10 digit) c.loop-digit-2.invariant.few);
    }

-- all digits are found, so as many as fit are written
whole : goal.returns-clause-value
whole g c =
    let digits : List ℕ = c.args.digits.now in
    let less : List ℕ → List ℕ = map (λ digit. digit - 10) in
    let all : take c.loop-digit-2.digit-index digits ≡ digits =
    take_all c.loop-digit-2.digit-index digits (omega arith) in
    let is_written : IsWritten c.loop-digit-2.count c.loop-digit-2.value (decimals_first digits) =
    subst (λ (xs : List ℕ). IsWritten c.loop-digit-2.count c.loop-digit-2.value
    (filter is_decimal digits ++ less (filter is_letter xs))) all
    c.loop-digit-2.invariant.is_written in
    let long : length c.loop-digit-2.value ≡ g.row.N = c.loop-digit-2.invariant.long in
    IsWritten-all c.loop-digit-2.count c.loop-digit-2.value (decimals_first digits) is_written
    (omega (arith, long, length-decimals_first digits, c.requires.few))
    ∙ ap (λ (n : ℕ). take n (decimals_first digits)) long

pub returns-clause-value : goal.returns-clause-value
returns-clause-value g c = whole g c

pub returns-clause-decimal : goal.returns-clause-decimal
returns-clause-decimal g c =
    ap (list_all is_decimal) (whole g c) ∙ are_decimal g.row.N c.args.digits.now c.requires.digits
