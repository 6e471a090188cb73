-- The words of a part, within words that are written.
use Rattle.std.proofs.Common.{◌≡◌, ℕ, ◌*◌, ◌-◌, List, take, drop, sym, ap, ◌∙◌}
use Rattle.std.proofs.lemmas.Slice.{between_is}
use Rattle.des_fast.specs.KeptRoundKeys.{words_of_part}

-- they stay if the first words stay
pub words-kept : (n : ℕ) (words other : List ℕ) → take (16 * n) words ≡ take (16 * n) other
    → words_of_part n words ≡ words_of_part n other
words-kept n words other same =
    between_is words (16 * (n - 1)) (16 * n)
    ∙ ap (drop (16 * (n - 1))) same
    ∙ sym (between_is other (16 * (n - 1)) (16 * n))
