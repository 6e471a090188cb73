-- Tests of all numbers below another one.
use Rattle.std.proofs.Common.{◌≡◌, ℕ, ◌<◌, Bool, true, get_or, ap, sym, ◌∙◌, arith, zero-add}
use Rattle.std.specs.List.{range_with_len, list_all}
use Rattle.std.proofs.lemmas.List.Elements.{All-get_or}
use Rattle.std.proofs.lemmas.List.Sums.{AllPass-from_list_all}
use Rattle.std.proofs.lemmas.List.FromFn.{length-range_with_len, get_or-range_with_len}

-- a test that holds at each number below n
pub at_range : (p : ℕ → Bool) (n b : ℕ) → list_all p (range_with_len 0 n) ≡ true → b < n → p b ≡ true
at_range p n b each below =
    let at : p (get_or (range_with_len 0 n) b 0) ≡ true =
    All-get_or (λ x. p x ≡ true) (range_with_len 0 n) b 0 (omega (arith, length-range_with_len 0 n))
    (AllPass-from_list_all p _ each) in
    ap p (sym (get_or-range_with_len 0 n b 0 below ∙ zero-add b)) ∙ at
