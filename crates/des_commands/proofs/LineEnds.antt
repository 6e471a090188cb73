-- Runs over lines go on, piece after piece, and end or stop.
use Rattle.std.proofs.Common.{◌≡◌, ℕ, Bool, true, false, ◌&&◌, ◌||◌, List, [], ◌∷◌, ◌++◌, length, length-append, refl, sym, ap, ◌∙◌, subst, Option, Some, None, IfSome, Result, Ok, Err, OnErr, arith}
use Rattle.std.proofs.lemmas.Grind.{flat_map-append}
use Rattle.std.proofs.lemmas.List.Folds.{concat-append}
use Rattle.std.proofs.KnownBytes.{Appends-nil, Appends-trans, Consumes-nil}
use Rattle.std.specs.Io.KnownBytes.{Appends, Consumes}
use Rattle.std.specs.List.{concat}
use Rattle.des_lines.specs.Written.{AppendsPrefix}
use Rattle.des_lines.proofs.Prefixes.{AppendsPrefix-second}
use Rattle.des_commands.specs.declared.lines.LinesJob.{LinesJob}
use Rattle.des_commands.specs.declared.lines.Tally.{Tally}
use Rattle.des_commands.specs.LineAnswers.{Outcome}
use Rattle.des_commands.specs.LineRuns.{AreAnswered, Opening, Runs, RunsOn, StopsAfter, Streams, line_of, streams_of, written_of}
use Rattle.des_commands.proofs.LineKinds.{Consumes-lines, ReadsLines-append}
use Rattle.des_commands.proofs.LineRuns.{Answers-append, GoesOn-append, Tells-append}

AreAnswered-append : (Opens : Opening) (job : LinesJob) (lines others : List (List ℕ)) (first then : List Outcome)
    → length first ≡ length lines → AreAnswered Opens job lines first → AreAnswered Opens job others then
    → AreAnswered Opens job (lines ++ others) (first ++ then)
AreAnswered-append Opens job [] others [] then count one other = other
AreAnswered-append Opens job [] others (outcome ∷ first) then count one other = cc
AreAnswered-append Opens job (line ∷ lines) others [] then count one other = cc
AreAnswered-append Opens job (line ∷ lines) others (outcome ∷ first) then count one other =
    (one.0, AreAnswered-append Opens job lines others first then (omega (arith, count)) one.1 other)

all_of : (a b : Option (List ℕ)) (xs ys all : List ℕ) → Consumes a b xs → IfSome b (λ bytes. bytes ≡ ys) → all ≡ xs ++ ys
    → IfSome a (λ bytes. bytes ≡ all)
all_of None b xs ys all first then is = tt
all_of (Some a) None xs ys all first then is = elim first [ ]
all_of (Some a) (Some b) xs ys all first then is = first ∙ ap (λ (rest : List ℕ). xs ++ rest) then ∙ sym is

or_false : (a : Bool) → a ≡ (a || false)
or_false true = refl
or_false false = refl

-- nothing was done
pub Runs-nothing : (Opens : Opening) (job : LinesJob) (l : Tally) (a : Streams) → Runs Opens job true true l l a a
Runs-nothing Opens job l a = record {
  lines = [];
  outcomes = [];
  reads = Consumes-nil a.left;
  answered = tt;
  counted = (refl, λ _. refl);
  written = Appends-nil a.written;
  answers = record { told = refl; line = refl; faults = or_false l.has_faults };
  all = λ ends. cc;
}

-- a piece more
pub Runs-append : (Opens : Opening) (job : LinesJob) (goes_on more : Bool) (l m n : Tally) (a b c : Streams)
    → Runs Opens job true true l m a b → Runs Opens job goes_on more m n b c → Runs Opens job goes_on more l n a c
Runs-append Opens job goes_on more l m n a b c one other = record {
  lines = one.lines ++ other.lines;
  outcomes = one.outcomes ++ other.outcomes;
  reads = ReadsLines-append one.lines other.lines a.left b.left c.left one.reads other.reads;
  answered =
      AreAnswered-append Opens job one.lines other.lines one.outcomes other.outcomes one.counted.0 one.answered other.answered;
  counted =
      GoesOn-append job.keeps_going goes_on (length one.lines) (length other.lines) (length (one.lines ++ other.lines))
      one.outcomes other.outcomes one.counted other.counted (length-append one.lines other.lines);
  written =
      subst (Appends a.written c.written) (sym (flat_map-append (line_of job.keeps_going) one.outcomes other.outcomes))
      (Appends-trans a.written b.written c.written (written_of job.keeps_going one.outcomes)
      (written_of job.keeps_going other.outcomes) one.written other.written);
  answers = Answers-append job one.outcomes other.outcomes l m n a.told b.told c.told one.answers other.answers;
  all = λ ends. all_of a.left b.left (concat one.lines) (concat other.lines) (concat (one.lines ++ other.lines))
      (Consumes-lines one.lines a.left b.left one.reads) (other.all ends) (concat-append one.lines other.lines);
}

pub RunsOn-append : (Opens : Opening) (job : LinesJob) (again : Bool) (l m n : Tally) (a b c : Streams)
    → Runs Opens job true true l m a b → RunsOn Opens job again m n b c → RunsOn Opens job again l n a c
RunsOn-append Opens job again l m n a b c one other = record {
  goes_on = other.goes_on;
  more = other.more;
  runs = Runs-append Opens job other.goes_on other.more l m n a b c one other.runs;
  is = other.is;
}

-- a run goes on if more follows and no fault ends it
both : (Opens : Opening) (job : LinesJob) (goes_on more : Bool) (l m : Tally) (a b : Streams) → true ≡ (more && goes_on)
    → Runs Opens job goes_on more l m a b → Runs Opens job true true l m a b
both Opens job true true l m a b is runs = runs
both Opens job goes_on false l m a b is runs = cc
both Opens job false true l m a b is runs = cc

pub going : (Opens : Opening) (job : LinesJob) (l m : Tally) (a b : Streams) → RunsOn Opens job true l m a b
    → Runs Opens job true true l m a b
going Opens job l m a b on = both Opens job on.goes_on on.more l m a b on.is on.runs

-- ---- faults

-- what holds in each case holds after an error
pub on_err : {T E P : Type 0} (result : Result T E) → P → OnErr result P
on_err (Ok value) holds = tt
on_err (Err error) holds = holds

-- nothing was answered of what was read
pub unanswered : (Opens : Opening) (job : LinesJob) (line : ℕ) (a b w t : Option (List ℕ)) (bytes : List ℕ)
    → Consumes a b bytes → StopsAfter Opens job line (streams_of a w t) (streams_of b w t)
unanswered Opens job line a b w t bytes consumed = record {
  lines = [];
  outcomes = [];
  between = a;
  bytes = bytes;
  reads = Consumes-nil a;
  more = consumed;
  answered = tt;
  goes_on = true;
  counted = (refl, λ _. refl);
  written = (0, Appends-nil w);
  told = refl;
}

-- a run stopped after some pieces
pub StopsAfter-append : (Opens : Opening) (job : LinesJob) (l m : Tally) (a b c : Streams)
    → Runs Opens job true true l m a b → StopsAfter Opens job m.line b c → StopsAfter Opens job l.line a c
StopsAfter-append Opens job l m a b c one other = record {
  lines = one.lines ++ other.lines;
  outcomes = one.outcomes ++ other.outcomes;
  between = other.between;
  bytes = other.bytes;
  reads = ReadsLines-append one.lines other.lines a.left b.left other.between one.reads other.reads;
  more = other.more;
  answered =
      AreAnswered-append Opens job one.lines other.lines one.outcomes other.outcomes one.counted.0 one.answered other.answered;
  goes_on = other.goes_on;
  counted =
      GoesOn-append job.keeps_going other.goes_on (length one.lines) (length other.outcomes)
      (length (one.outcomes ++ other.outcomes)) one.outcomes other.outcomes one.counted other.counted
      (omega (arith, length-append one.outcomes other.outcomes, one.counted.0));
  written =
      subst (AppendsPrefix a.written c.written) (sym (flat_map-append (line_of job.keeps_going) one.outcomes other.outcomes))
      (AppendsPrefix-second a.written b.written c.written (written_of job.keeps_going one.outcomes)
      (written_of job.keeps_going other.outcomes) one.written other.written);
  told =
      Tells-append job.name.now l.line one.outcomes other.outcomes a.told b.told c.told one.answers.told
      (rw one.answers.line at other.told);
}
