-- Runs over lines go on: what is written, told and counted of some, and then of others.
use Rattle.std.proofs.Common.{◌≡◌, ℕ, ◌+◌, ◌≤◌, ◌<◌, ◌||◌, Bool, true, false, List, [], ◌∷◌, ◌++◌, length, length-append, append_assoc, get_or, sum, refl, sym, ap, ◌∙◌, subst, Option, inl, inr, Ok, Err, is_err, arith}
use Rattle.std.proofs.lemmas.Bool.{cases_lt}
use Rattle.std.proofs.lemmas.Grind.{flat_map-append}
use Rattle.std.proofs.lemmas.List.Folds.{list_any-append}
use Rattle.std.proofs.lemmas.List.Sums.{sum_by_more_le}
use Rattle.std.proofs.Math.ListN.{get_or-append}
use Rattle.std.proofs.Math.Seq.{get_or-append_seam}
use Rattle.des_commands.specs.declared.lines.LinesJob.{LinesJob}
use Rattle.des_commands.specs.declared.lines.Tally.{Tally}
use Rattle.des_commands.specs.declared.lines.columns.LineColumn.{LineColumn}
use Rattle.des_commands.specs.LineAnswers.{Outcome}
use Rattle.des_commands.specs.LineColumns.{AreOutcomes, IsOutcomeAt, start_of}
use Rattle.des_commands.specs.LineRuns.{AddsAnswers, Answers, GoesOn, Tells, has_faults, line_of, next, number_after, written_of}

number_after-append : (number : ℕ) (first then : List Outcome)
    → number_after number (first ++ then) ≡ number_after (number_after number first) then
number_after-append number [] then = refl
number_after-append number (outcome ∷ first) then = number_after-append (next number) first then

pub Tells-append : (name : List ℕ) (number : ℕ) (first then : List Outcome) (a b c : Option (List ℕ))
    → Tells name number first a b → Tells name (number_after number first) then b c → Tells name number (first ++ then) a c
Tells-append name number [] then a b c told others = subst (λ (old : Option (List ℕ)). Tells name number then old c) told others
Tells-append name number (Ok answer ∷ first) then a b c told others =
    Tells-append name (next number) first then a b c told others
Tells-append name number (Err fault ∷ first) then a b c told others =
    (told.0, told.1, Tells-append name (next number) first then told.0 b c told.2 others)

or_assoc : (a b c : Bool) → ((a || b) || c) ≡ (a || (b || c))
or_assoc true b c = refl
or_assoc false b c = refl

pub Answers-append : (job : LinesJob) (first then : List Outcome) (l m n : Tally) (a b c : Option (List ℕ))
    → Answers job first l m a b → Answers job then m n b c → Answers job (first ++ then) l n a c
Answers-append job first then l m n a b c one other = record {
  told = Tells-append job.name.now l.line first then a b c one.told (rw one.line at other.told);
  line = other.line ∙ ap (λ (number : ℕ). number_after number then) one.line ∙ sym (number_after-append l.line first then);
  faults = other.faults ∙ ap (λ (had : Bool). had || has_faults then) one.faults
      ∙ or_assoc l.has_faults (has_faults first) (has_faults then)
      ∙ ap (λ (has : Bool). l.has_faults || has) (sym (list_any-append is_err first then));
}

none_in : (first then : List Outcome) → has_faults first ≡ false → has_faults then ≡ false
    → has_faults (first ++ then) ≡ false
none_in first then one other = list_any-append is_err first then ∙ rw (one, other) refl

pub GoesOn-append : (keeps goes_on : Bool) (m n k : ℕ) (first then : List Outcome) → GoesOn keeps true m first
    → GoesOn keeps goes_on n then → k ≡ m + n → GoesOn keeps goes_on k (first ++ then)
GoesOn-append keeps true m n k first then one other is =
    (omega (arith, length-append first then, one.0, other.0, is), λ ends. none_in first then (one.1 ends) (other.1 ends))
GoesOn-append keeps false m n k first then one other is = (
  omega (arith, length-append first then, one.0, other.0, is),
  other.1,
  (
    first ++ other.2.0,
    other.2.1,
    ap (λ (rest : List Outcome). first ++ rest) other.2.2
        ∙ sym (append_assoc first other.2.0 (Err other.2.1 ∷ [])),
    none_in first other.2.0 (one.1 other.1) other.2.3,
  ),
)

-- those that are answered, by themselves
pub GoesOn-itself : (keeps goes_on : Bool) (count : ℕ) (outcomes : List Outcome) → GoesOn keeps goes_on count outcomes
    → GoesOn keeps goes_on (length outcomes) outcomes
GoesOn-itself keeps true count outcomes goes = (refl, goes.1)
GoesOn-itself keeps false count outcomes goes = (omega arith, goes.1, goes.2)

pub AddsAnswers-append : (job : LinesJob) (goes_on : Bool) (m n k : ℕ) (first then : List Outcome) (l p q : Tally)
    (a b c : Option (List ℕ)) (x y z : List ℕ) → AddsAnswers job true m first l p a b x y
    → AddsAnswers job goes_on n then p q b c y z → k ≡ m + n → AddsAnswers job goes_on k (first ++ then) l q a c x z
AddsAnswers-append job goes_on m n k first then l p q a b c x y z one other is = record {
  answers = Answers-append job first then l p q a b c one.answers other.answers;
  counted = GoesOn-append job.keeps_going goes_on m n k first then one.counted other.counted is;
  added = other.added ∙ ap (λ (text : List ℕ). text ++ written_of job.keeps_going then) one.added
      ∙ append_assoc x (written_of job.keeps_going first) (written_of job.keeps_going then)
      ∙ ap (λ (text : List ℕ). x ++ text) (sym (flat_map-append (line_of job.keeps_going) first then));
}

-- a line more of a column is answered
pub AreOutcomes-more : (writes_digits : Bool) (column : LineColumn) (outcomes : List Outcome) (outcome : Outcome)
    → AreOutcomes writes_digits column outcomes → length outcomes < length column.kinds.items
    → IsOutcomeAt writes_digits column (length outcomes) outcome
    → AreOutcomes writes_digits column (outcomes ++ outcome ∷ [])
AreOutcomes-more writes_digits column outcomes outcome are below is = record {
  count = omega (arith, length-append outcomes (outcome ∷ []));
  each = λ k below. elim (cases_lt k (length outcomes)) [
    | inl front ↦ rw (get_or-append outcomes (outcome ∷ []) (Ok []) k front) (are.each k front)
    | inr last ↦
        let same : k ≡ length outcomes = omega (arith, length-append outcomes (outcome ∷ [])) in
        rw (same, get_or-append_seam outcomes outcome [] (Ok [])) is
  ];
}

-- a text of a column stands within its bytes
pub within : (lengths : List ℕ) (k size : ℕ) → k < length lengths → size ≤ get_or lengths k 0
    → start_of lengths k + size ≤ sum lengths
within lengths k size below fits = omega (arith, sum_by_more_le (λ (length : ℕ). length) lengths k 0 below)
