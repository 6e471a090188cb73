use Rattle.std.proofs.Common.{◌≡◌, ℕ, ◌+◌, ◌<◌, ◌==◌, Bool, cond, List, [], ◌∷◌, length, take, get_or, sym, ap, ◌∙◌, arith}
use mir.Val.{bool_byte}
use Rattle.std.specs.List.{filter, list_any}
use Rattle.std.proofs.lemmas.List.Filters.{length-filter_more}
use Rattle.des_payment.proofs.BoolBytes.{counted, few_more}
use Rattle.des_payment.proofs.decimal_table.variety.Goals as goal

-- one digit more
more : (test : ℕ → Bool) (digits : List ℕ) (i count : ℕ) (found : Bool) → i < length digits
    → count ≡ length (filter test (take i digits)) → found ≡ test (get_or digits i 0)
    → count + bool_byte found ≡ length (filter test (take (i + 1) digits))
more test digits i count found within is same =
    ap (λ (n : ℕ). n + bool_byte found) is
    ∙ ap (λ (n : ℕ). length (filter test (take i digits)) + n)
    (counted found ∙ ap (λ (b : Bool). cond b 1 0) same)
    ∙ sym (length-filter_more test digits i 0 within)

pub loop-digit-preserved : goal.loop-digit-preserved
loop-digit-preserved c =
    let i : ℕ = c.loop-digit.digit-index in
    record {
      counted =
          more (λ digit. list_any (λ other. other == digit) c.args.table.now)
          (0 ∷ 1 ∷ 2 ∷ 3 ∷ 4 ∷ 5 ∷ 6 ∷ 7 ∷ 8 ∷ 9 ∷ []) i c.loop-digit.count c.has.result (omega arith)
          c.loop-digit.invariant.counted c.has.ensures;
      few = few_more c.loop-digit.count i c.has.result c.loop-digit.invariant.few;
    }
