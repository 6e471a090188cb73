-- What a column of lines is, once its values are opened.
use Rattle.std.proofs.Common.{◌≡◌, ℕ, suc, ◌≤◌, ◌<◌, ℤ, Bool, List, [], ◌∷◌, length, map, take, drop, get_or, sum, refl, sym, ap, ap₂, ◌∙◌, subst, false, IfSome, Ok, arith}
use Rattle.std.proofs.Math.ListN.{get_or-map}
use Rattle.std.proofs.lemmas.List.{length-map}
use Rattle.std.proofs.KnownBytes.{Consumes-nil}
use Rattle.std.specs.List.{concat}
use Rattle.des_columns.specs.Columns.{pieces}
use Rattle.des_columns.specs.Readings.{IsColumnRead}
use Rattle.des_columns.specs.declared.status.TheConstants.{OK}
use Rattle.des_commands.specs.declared.lines.LinesJob.{LinesJob}
use Rattle.des_commands.specs.declared.lines.Tally.{Tally}
use Rattle.des_commands.specs.declared.lines.columns.LineColumn.{LineColumn}
use Rattle.des_requests.specs.declared.lines.LineCoding.{LineCoding}
use Rattle.des_commands.specs.declared.lines.line_kind.LineKind.{LineKind}
use Rattle.des_commands.specs.declared.lines.line_kind.LineKind.TheVariants.{Value}
use Rattle.des_commands.specs.LineAnswers.{IsOutcome, Outcome}
use Rattle.des_commands.specs.LineColumns.{AreOutcomes, AreOfKinds, IsColumnOf, IsWhole, OpensColumn, text_at}
use Rattle.des_commands.specs.LineKinds.{ReadsLines}
use Rattle.des_commands.specs.LineRuns.{AddsAnswers, AreAnswered, GoesOn, Opening, Runs, StopsAfter, Streams, Tells, written_of}
use Rattle.des_lines.specs.Written.{AppendsPrefix}
use Rattle.std.specs.Io.KnownBytes.{Appends}
use Rattle.des_commands.proofs.LineTexts.{all_within, length-concat, pieces-concat, placed, text_placed}

-- as many kinds and values as lines
counts : (coding : LineCoding) (lines : List (List ℕ)) (kinds : List LineKind) (values : List (List ℕ))
    → AreOfKinds coding lines kinds values
    → (length kinds ≡ length lines) × (length values ≡ length lines)
counts coding [] [] [] are = (refl, refl)
counts coding (line ∷ lines) (kind ∷ kinds) (value ∷ values) are =
    let rest = counts coding lines kinds values are.1 in
    (ap suc rest.0, ap suc rest.1)
counts coding [] [] (z ∷ zs) are = elim are [ ]
counts coding [] (y ∷ ys) zs are = elim are [ ]
counts coding (x ∷ xs) [] zs are = elim are [ ]
counts coding (x ∷ xs) (y ∷ ys) [] are = elim are [ ]

pub count_of : (coding : LineCoding) (lines : List (List ℕ)) (kinds : List LineKind) (bytes lengths : List ℕ)
    → IsColumnOf coding lines kinds bytes lengths → length kinds ≡ length lines
count_of coding lines kinds bytes lengths column = (counts coding lines kinds column.values column.read).0

pub sizes_sum : (coding : LineCoding) (lines : List (List ℕ)) (kinds : List LineKind) (bytes lengths : List ℕ)
    → IsColumnOf coding lines kinds bytes lengths → sum lengths ≡ length bytes
sizes_sum coding lines kinds bytes lengths column =
    ap sum column.sizes ∙ sym (length-concat column.values) ∙ sym (ap length column.joined)

-- the values of the column
values_of : (coding : LineCoding) (lines : List (List ℕ)) (kinds : List LineKind) (bytes lengths : List ℕ)
    → (column : IsColumnOf coding lines kinds bytes lengths) → pieces lengths bytes ≡ column.values
values_of coding lines kinds bytes lengths column =
    ap₂ pieces column.sizes column.joined ∙ pieces-concat column.values

-- an opened column: the values that were read, and their texts
pub record IsOpened (coding : LineCoding) (Opens : Opening) (lines : List (List ℕ)) (column : LineColumn) (bytes : List ℕ)
    : Type 0 where
  pub of_lines : IsColumnOf coding lines column.kinds.items bytes column.lengths.items
  pub read : IsColumnRead Opens (pieces column.lengths.items bytes) column.texts.items column.text_lengths.items
      column.statuses.items
  pub size : length column.texts.items ≡ length bytes

pub opened_of : (coding : LineCoding) (Opens : Opening) (lines : List (List ℕ)) (old new : LineColumn)
    → IsColumnOf coding lines old.kinds.items old.values.items old.lengths.items → OpensColumn Opens old new
    → IsOpened coding Opens lines new old.values.items
opened_of coding Opens lines old new of_lines opened = record {
  of_lines = rw (opened.kinds, opened.lengths) of_lines;
  read = rw opened.lengths opened.read;
  size = opened.size;
}

are_values : (coding : LineCoding) (Opens : Opening) (lines : List (List ℕ)) (column : LineColumn) (bytes : List ℕ)
    → (opened : IsOpened coding Opens lines column bytes) → pieces column.lengths.items bytes ≡ opened.of_lines.values
are_values coding Opens lines column bytes opened =
    values_of coding lines column.kinds.items bytes column.lengths.items opened.of_lines

as_many : (coding : LineCoding) (Opens : Opening) (lines : List (List ℕ)) (column : LineColumn) (bytes : List ℕ)
    → (opened : IsOpened coding Opens lines column bytes) → length opened.read.read ≡ length opened.of_lines.values
as_many coding Opens lines column bytes opened =
    opened.read.count ∙ ap length (are_values coding Opens lines column bytes opened)

are_placed : (coding : LineCoding) (Opens : Opening) (lines : List (List ℕ)) (column : LineColumn) (bytes : List ℕ)
    → (opened : IsOpened coding Opens lines column bytes)
    → column.texts.items ≡ placed opened.of_lines.values opened.read.read
are_placed coding Opens lines column bytes opened =
    opened.read.places
    ∙ ap (λ (values : List (List ℕ)). placed values opened.read.read) (are_values coding Opens lines column bytes opened)

fits : (coding : LineCoding) (Opens : Opening) (lines : List (List ℕ)) (column : LineColumn) (bytes : List ℕ)
    → (opened : IsOpened coding Opens lines column bytes) → (k : ℕ)
    → length (get_or opened.read.read k []) ≤ length (get_or opened.of_lines.values k [])
fits coding Opens lines column bytes opened =
    all_within opened.of_lines.values opened.read.read (as_many coding Opens lines column bytes opened)
    (sym (ap length (are_placed coding Opens lines column bytes opened)) ∙ opened.size
    ∙ ap length opened.of_lines.joined ∙ length-concat opened.of_lines.values)

text_length : (coding : LineCoding) (Opens : Opening) (lines : List (List ℕ)) (column : LineColumn) (bytes : List ℕ)
    → (opened : IsOpened coding Opens lines column bytes) → (k : ℕ)
    → get_or column.text_lengths.items k 0 ≡ length (get_or opened.read.read k [])
text_length coding Opens lines column bytes opened k =
    ap (λ (lengths : List ℕ). get_or lengths k 0) opened.read.lengths ∙ get_or-map length opened.read.read k []

pub whole : (coding : LineCoding) (Opens : Opening) (lines : List (List ℕ)) (column : LineColumn) (bytes : List ℕ)
    → IsOpened coding Opens lines column bytes → IsWhole column
whole coding Opens lines column bytes opened =
    let values : List (List ℕ) = opened.of_lines.values in
    let texts : List (List ℕ) = opened.read.read in
    let count = counts coding lines column.kinds.items values opened.of_lines.read in
    let read_count = as_many coding Opens lines column bytes opened in
    let sizes : length column.lengths.items ≡ length values = ap length opened.of_lines.sizes ∙ length-map values length in
    let text_sizes : length column.text_lengths.items ≡ length texts =
    ap length opened.read.lengths ∙ length-map texts length in
    let statuses : length column.statuses.items ≡ length values =
    opened.read.statuses_count ∙ ap length (are_values coding Opens lines column bytes opened) in
    record {
      lengths = omega (arith, sizes, count.0, count.1);
      text_lengths = omega (arith, text_sizes, read_count, count.0, count.1);
      statuses = omega (arith, statuses, count.0, count.1);
      texts = sizes_sum coding lines column.kinds.items bytes column.lengths.items opened.of_lines ∙ sym opened.size;
      within = λ k.
          let value_size : get_or column.lengths.items k 0 ≡ length (get_or values k []) =
          ap (λ (lengths : List ℕ). get_or lengths k 0) opened.of_lines.sizes ∙ get_or-map length values k [] in
          omega (
            arith,
            value_size,
            text_length coding Opens lines column bytes opened k,
            fits coding Opens lines column bytes opened k,
          );
    }

-- each of the first lines is answered
answered_from : (Opens : Opening) (job : LinesJob) (lines : List (List ℕ)) (kinds : List LineKind)
    (values : List (List ℕ)) (outcomes : List Outcome) → AreOfKinds job.coding lines kinds values
    → length outcomes ≤ length kinds
    → ((k : ℕ) → k < length outcomes → (status : ℤ) × (text : List ℕ) × Opens (get_or values k []) status text
    × IsOutcome job.writes_digits (get_or kinds k Value) text status (get_or outcomes k (Ok [])))
    → AreAnswered Opens job lines outcomes
answered_from Opens job lines kinds values [] are count each = tt
answered_from Opens job (line ∷ lines) (kind ∷ kinds) (value ∷ values) (outcome ∷ outcomes) are count each =
    let here = each 0 (omega arith) in (
      (kind, value, here.0, here.1, are.0, here.2, here.3),
      answered_from Opens job lines kinds values outcomes are.1 (omega (arith, count))
          (λ k below. each (suc k) (omega (arith, below))),
    )
answered_from Opens job [] [] [] (outcome ∷ outcomes) are count each = omega (arith, count)
answered_from Opens job [] [] (z ∷ zs) (outcome ∷ outcomes) are count each = elim are [ ]
answered_from Opens job [] (y ∷ ys) zs (outcome ∷ outcomes) are count each = elim are [ ]
answered_from Opens job (x ∷ xs) [] zs (outcome ∷ outcomes) are count each = elim are [ ]
answered_from Opens job (x ∷ xs) (y ∷ ys) [] (outcome ∷ outcomes) are count each = elim are [ ]

pub answered : (job : LinesJob) (Opens : Opening) (lines : List (List ℕ)) (column : LineColumn) (bytes : List ℕ)
    (outcomes : List Outcome) → IsOpened job.coding Opens lines column bytes
    → AreOutcomes job.writes_digits column outcomes → AreAnswered Opens job lines outcomes
answered job Opens lines column bytes outcomes opened are =
    let values : List (List ℕ) = opened.of_lines.values in
    let texts : List (List ℕ) = opened.read.read in
    let count = counts job.coding lines column.kinds.items values opened.of_lines.read in
    let same = are_values job.coding Opens lines column bytes opened in
    answered_from Opens job lines column.kinds.items values outcomes opened.of_lines.read are.count
    (λ k below.
    let found : List ℕ = get_or texts k [] in
    let inside : k < length (pieces column.lengths.items bytes) =
    omega (arith, ap length same, count.0, count.1, are.count, below) in
    let text : text_at column.texts.items column.lengths.items column.text_lengths.items k ≡ found =
    ap (λ (n : ℕ). take n (drop (sum (take k column.lengths.items)) column.texts.items))
    (text_length job.coding Opens lines column bytes opened k)
    ∙ ap (λ (sizes : List ℕ). take (length found) (drop (sum (take k sizes)) column.texts.items)) opened.of_lines.sizes
    ∙ ap (λ (all : List ℕ). take (length found) (drop (sum (take k (map length values))) all))
    (are_placed job.coding Opens lines column bytes opened)
    ∙ text_placed values texts k (as_many job.coding Opens lines column bytes opened)
    (fits job.coding Opens lines column bytes opened) in (
      get_or column.statuses.items k OK,
      found,
      subst (λ (all : List (List ℕ)). Opens (get_or all k []) (get_or column.statuses.items k OK) found) same
          (opened.read.reads k inside),
      subst (λ (text : List ℕ). IsOutcome job.writes_digits (get_or column.kinds.items k Value) text
          (get_or column.statuses.items k OK) (get_or outcomes k (Ok []))) text (are.each k below),
    ))

-- lines were read, answered and written
pub runs : (Opens : Opening) (job : LinesJob) (lines : List (List ℕ)) (outcomes : List Outcome) (column : LineColumn)
    (bytes sent : List ℕ) (goes_on more : Bool) (l m : Tally) (a b : Streams) → ReadsLines lines a.left b.left
    → IsOpened job.coding Opens lines column bytes → AreOutcomes job.writes_digits column outcomes
    → AddsAnswers job goes_on (length column.kinds.items) outcomes l m a.told b.told [] sent
    → Appends a.written b.written sent → (more ≡ false → IfSome a.left (λ bytes. bytes ≡ concat lines))
    → Runs Opens job goes_on more l m a b
runs Opens job lines outcomes column bytes sent goes_on more l m a b reads opened are adds written all = record {
  lines = lines;
  outcomes = outcomes;
  reads = reads;
  answered = answered job Opens lines column bytes outcomes opened are;
  counted = subst (λ (count : ℕ). GoesOn job.keeps_going goes_on count outcomes)
      (count_of job.coding lines column.kinds.items bytes column.lengths.items opened.of_lines) adds.counted;
  written = subst (Appends a.written b.written) adds.added written;
  answers = adds.answers;
  all = all;
}

-- lines were read, the first of them answered and told of, and a prefix of the answers was written
pub stops : (Opens : Opening) (job : LinesJob) (lines : List (List ℕ)) (outcomes : List Outcome) (column : LineColumn)
    (bytes : List ℕ) (goes_on : Bool) (line : ℕ) (a b : Streams) → ReadsLines lines a.left b.left
    → IsOpened job.coding Opens lines column bytes → AreOutcomes job.writes_digits column outcomes
    → GoesOn job.keeps_going goes_on (length outcomes) outcomes → Tells job.name.now line outcomes a.told b.told
    → AppendsPrefix a.written b.written (written_of job.keeps_going outcomes) → StopsAfter Opens job line a b
stops Opens job lines outcomes column bytes goes_on line a b reads opened are counted told written = record {
  lines = lines;
  outcomes = outcomes;
  between = b.left;
  bytes = [];
  reads = reads;
  more = Consumes-nil b.left;
  answered = answered job Opens lines column bytes outcomes opened are;
  goes_on = goes_on;
  counted = counted;
  written = written;
  told = told;
}
