-- The values of lines as a column: one after another, each text from where its value begins.
use Rattle.std.specs.Prelude.{◌≡◌, ◌<◌, ◌≤◌, ℕ, ℤ, Bool, true, false, Option, Ok, List, [], ◌∷◌, ◌++◌, length, map, take, drop, sum, slice_index, slice_index_or, ⊤}
use Rattle.std.specs.List.{concat}
use Rattle.des_commands.specs.declared.lines.columns.LineColumn.{LineColumn}
use Rattle.des_requests.specs.declared.lines.LineCoding.{LineCoding}
use Rattle.des_commands.specs.declared.lines.line_kind.LineKind.{LineKind}
use Rattle.des_commands.specs.declared.lines.line_kind.LineKind.TheVariants.{Value}
use Rattle.des_commands.specs.LineAnswers.{IsOutcome, Outcome}
use Rattle.des_commands.specs.LineKinds.{IsOfKind, ReadsLine}
use Rattle.des_columns.specs.Columns.{pieces}
use Rattle.des_columns.specs.Readings.{IsColumnRead}
use Rattle.des_columns.specs.declared.status.TheConstants.{OK}
use Rattle.std.specs.Io.KnownBytes.{Consumes, IsAtEnd}

abbrev pub start_of : (lengths : List ℕ) → ℕ → ℕ
start_of lengths k = sum (take k lengths)

abbrev pub text_at : (texts lengths text_lengths : List ℕ) → ℕ → List ℕ
text_at texts lengths text_lengths k = take (slice_index text_lengths k) (drop (start_of lengths k) texts)

-- each line is read so, and has this value
abbrev pub AreOfKinds : LineCoding → (lines : List (List ℕ)) → List LineKind → (values : List (List ℕ)) → Type 0
AreOfKinds coding [] [] [] = ⊤
AreOfKinds coding (line ∷ lines) (kind ∷ kinds) (value ∷ values) =
    IsOfKind coding line kind value × AreOfKinds coding lines kinds values
AreOfKinds coding _ _ _ = ⊥

-- the column of lines
pub record IsColumnOf (coding : LineCoding) (lines : List (List ℕ)) (kinds : List LineKind) (bytes lengths : List ℕ)
    : Type 0 where
  pub values : List (List ℕ)
  pub read : AreOfKinds coding lines kinds values
  pub joined : bytes ≡ concat values
  pub sizes : lengths ≡ map length values

-- a line was read, and is the last of the column; or there was none, and the column stays as it is
abbrev pub AddsLine : LineCoding → (there : Bool) → (old new : LineColumn) → Option (List ℕ) → Option (List ℕ) → Type 0
AddsLine coding true old new from to =
    (line : List ℕ) × (kind : LineKind) × (value : List ℕ)
    × ReadsLine line from to × IsOfKind coding line kind value
    × (new.kinds.items ≡ old.kinds.items ++ kind ∷ [])
    × (new.values.items ≡ old.values.items ++ value)
    × (new.lengths.items ≡ old.lengths.items ++ length value ∷ [])
AddsLine coding false old new from to = (new ≡ old) × Consumes from to [] × IsAtEnd from

-- the values of a column are opened, and the lines stay
pub record OpensColumn (Opens : List ℕ → ℤ → List ℕ → Type 0) (old new : LineColumn) : Type 0 where
  pub read : IsColumnRead Opens (pieces old.lengths.items old.values.items) new.texts.items new.text_lengths.items
      new.statuses.items
  pub size : length new.texts.items ≡ length old.values.items
  pub kinds : new.kinds ≡ old.kinds
  pub lengths : new.lengths ≡ old.lengths

-- the parts of a column fit each other
pub record IsWhole (column : LineColumn) : Type 0 where
  pub lengths : length column.lengths.items ≡ length column.kinds.items
  pub text_lengths : length column.text_lengths.items ≡ length column.kinds.items
  pub statuses : length column.statuses.items ≡ length column.kinds.items
  pub texts : sum column.lengths.items ≡ length column.texts.items
  pub within : (k : ℕ) → slice_index column.text_lengths.items k ≤ slice_index column.lengths.items k

-- a line of a column is answered so
abbrev pub IsOutcomeAt : (writes_digits : Bool) → LineColumn → ℕ → Outcome → Type 0
IsOutcomeAt writes_digits column k outcome =
    IsOutcome writes_digits (slice_index_or column.kinds.items k Value)
    (text_at column.texts.items column.lengths.items column.text_lengths.items k)
    (slice_index_or column.statuses.items k OK) outcome

-- the first lines are
pub record AreOutcomes (writes_digits : Bool) (column : LineColumn) (outcomes : List Outcome) : Type 0 where
  pub count : length outcomes ≤ length column.kinds.items
  pub each : (k : ℕ) → k < length outcomes
      → IsOutcomeAt writes_digits column k (slice_index_or outcomes k (Ok []))
