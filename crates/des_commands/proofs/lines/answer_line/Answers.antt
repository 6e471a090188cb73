use Rattle.std.proofs.Common.{◌≡◌, ◌||◌, ℕ, ℤ, Bool, true, false, List, [], ◌∷◌, ◌++◌, codes, append-nil, append_assoc, refl, sym, ap, subst, ◌∙◌, Option, is_none, Ok, Err, arith}
use Rattle.std.proofs.Math.Facts.{to_z-of_z}
use Rattle.std.specs.Result.{result_err}
use Rattle.des_commands.specs.declared.lines.line_fault.LineFault.{LineFault}
use Rattle.des_commands.specs.LineAnswers.{AddsAnswer, IsOutcome, Outcome}
use Rattle.des_commands.specs.LineRuns.{GoesOn, end_of, line_of, written_of}
use Rattle.des_commands.proofs.lines.answer_line.Goals as goal

-- the fault is the outcome's
is_of : (outcome : Outcome) (fault : Option LineFault) (old new : List ℕ) → AddsAnswer outcome fault old new
    → result_err outcome ≡ fault
is_of (Ok answer) fault old new added = sym added.0
is_of (Err cause) fault old new added = sym added.0

-- the run goes on after it, or not
on : (keeps goes : Bool) (outcome : Outcome) (fault : Option LineFault) (old new : List ℕ)
    → AddsAnswer outcome fault old new → goes ≡ (keeps || is_none fault) → GoesOn keeps goes 1 (outcome ∷ [])
on true true (Ok answer) fault old new added is = (refl, λ ends. cc)
on true true (Err cause) fault old new added is = (refl, λ ends. cc)
on true false outcome fault old new added is = cc
on false true (Ok answer) fault old new added is = (refl, λ ends. refl)
on false true (Err cause) fault old new added is = let no = rw added.0 at is in cc
on false false (Ok answer) fault old new added is = let no = rw added.0 at is in cc
on false false (Err cause) fault old new added is = (omega arith, refl, ([], cause, refl, refl))

-- its line, and the line's end
line : (keeps goes : Bool) (outcome : Outcome) (fault : Option LineFault) (old new : List ℕ)
    → AddsAnswer outcome fault old new → goes ≡ (keeps || is_none fault) → new ++ end_of goes ≡ old ++ line_of keeps outcome
line keeps true (Ok answer) fault old new added is = rw added.1 (append_assoc old answer (codes "\n"))
line true true (Err cause) fault old new added is = ap (λ (text : List ℕ). text ++ codes "\n") added.1
line false true (Err cause) fault old new added is = let no = rw added.0 at is in cc
line true false outcome fault old new added is = cc
line false false (Ok answer) fault old new added is = let no = rw added.0 at is in cc
line false false (Err cause) fault old new added is = ap (λ (text : List ℕ). text ++ []) added.1

lines : (keeps goes : Bool) (outcome : Outcome) (fault : Option LineFault) (old new all : List ℕ)
    → AddsAnswer outcome fault old new → goes ≡ (keeps || is_none fault) → all ≡ new ++ end_of goes
    → all ≡ old ++ written_of keeps (outcome ∷ [])
lines keeps goes outcome fault old new all added is ends =
    ends ∙ line keeps goes outcome fault old new added is
    ∙ ap (λ (text : List ℕ). old ++ text) (sym (append-nil (line_of keeps outcome)))

pub returns-clause-answered : goal.returns-clause-answered
returns-clause-answered g c =
    let out : List ℕ = c.args.out.now.items in
    let new : List ℕ = c.add_outcome.new.out.items in
    let keeps : Bool = c.args.job.now.keeps_going in
    let outcome : Outcome = c.in_ok-fault.ensures.0 in
    let fault : Option LineFault = c.in_ok-fault.fault in
    let added : AddsAnswer outcome fault out new = c.in_ok-fault.ensures.2 in
    let goes : Bool = c.goes_on-goes_on.result in (
      outcome,
      subst (λ (status : ℤ). IsOutcome c.args.job.now.writes_digits c.args.kind c.args.text.now status outcome)
          (to_z-of_z c.ranges.status) c.in_ok-fault.ensures.1,
      record {
        answers = c.in_ok-count_line.ensures.told outcome (is_of outcome fault out new added);
        counted = on keeps goes outcome fault out new added c.goes_on-goes_on.ensures;
        added = lines keeps goes outcome fault out new _ added c.goes_on-goes_on.ensures c.in_ok-end_line.ensures;
      },
    )
