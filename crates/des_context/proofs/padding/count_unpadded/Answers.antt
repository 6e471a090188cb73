use Rattle.std.proofs.Common.{◌≡◌, ℕ, List, ◌-◌, ◌%◌, ◌++◌, length, take, arith, ap, ap₂, sym, ◌∙◌, take-append-drop, length-append}
use Rattle.des_io.specs.PaddedBytes.{padded}
use Rattle.des_context.proofs.PaddedCounts.{last_padded, whole_padded}
use Rattle.des_context.proofs.padding.count_unpadded.Goals as goal

-- bytes with their padding have a last block, whose padding is found
pub returns-in_err-count-clause-back : goal.returns-in_err-count-clause-back
returns-in_err-count-clause-back c = λ plain same.
    let bytes : List ℕ = c.args.bytes.now in
    let prefix : List ℕ = c.in_ok-prefix.prefix.now in
    let last : List ℕ = c.in_ok-prefix.last.now in
    let cases = c.in_ok-prefix.ensures.cases in
    let joined : prefix ++ last ≡ bytes = ap₂ ◌++◌ cases.0 cases.1 ∙ take-append-drop (length bytes - 8) bytes in
    let eight : length last ≡ 8 = omega (arith, cases.2, ap length joined, length-append prefix last) in
    let whole : length prefix % 8 ≡ 0 = omega (arith, cases.2, c.requires.whole) in
    let parts = last_padded c.args.padding plain prefix last
    (λ e. c.requires.padding (sym c.requires.taken_off ∙ e)) eight whole (same ∙ sym joined) in
    absurd (cc (c.in_err-count.ensures.back parts.0 (ap (λ p. padded p parts.0) c.requires.taken_off ∙ parts.2)))

pub returns-clause-found : goal.returns-clause-found
returns-clause-found c =
    let bytes : List ℕ = c.args.bytes.now in
    let prefix : List ℕ = c.in_ok-prefix.prefix.now in
    let last : List ℕ = c.in_ok-prefix.last.now in
    let cases = c.in_ok-prefix.ensures.cases in
    let joined : prefix ++ last ≡ bytes = ap₂ ◌++◌ cases.0 cases.1 ∙ take-append-drop (length bytes - 8) bytes in
    let whole : length prefix % 8 ≡ 0 = omega (arith, cases.2, c.requires.whole) in
    let found = c.in_ok-count.ensures.found in (
      omega (arith, cases.2, found.0),
      whole_padded c.args.padding bytes prefix last c.in_ok-count.count joined whole
          (ap (λ p. padded p (take c.in_ok-count.count last)) (sym c.requires.taken_off) ∙ found.1),
    )
