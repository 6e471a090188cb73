-- Lines that are read one after another, and their column.
use Rattle.std.proofs.Common.{◌≡◌, ℕ, List, [], ◌∷◌, ◌++◌, length, append-nil, sym, ap, ◌∙◌, Option, Some, None, IfSome}
use Rattle.std.proofs.lemmas.List.{map-append}
use Rattle.std.proofs.lemmas.List.Folds.{concat-append}
use Rattle.std.proofs.KnownBytes.{Consumes-trans}
use Rattle.std.specs.List.{concat}
use Rattle.std.specs.Io.KnownBytes.{Consumes, IsAtEnd}
use Rattle.des_requests.specs.declared.lines.LineCoding.{LineCoding}
use Rattle.des_commands.specs.declared.lines.line_kind.LineKind.{LineKind}
use Rattle.des_commands.specs.LineKinds.{IsOfKind, ReadsLine, ReadsLines}
use Rattle.des_commands.specs.LineColumns.{AreOfKinds, IsColumnOf}

-- no more is read
pub ReadsLines-nothing : (lines : List (List ℕ)) (a b c : Option (List ℕ)) → ReadsLines lines a b → Consumes b c []
    → ReadsLines lines a c
ReadsLines-nothing [] a b c reads none = Consumes-trans a b c [] [] reads none
ReadsLines-nothing (line ∷ lines) a b c reads none =
    (reads.0, reads.1, ReadsLines-nothing lines reads.0 b c reads.2 none)

-- what is read in front
ReadsLine-after : (line : List ℕ) (a b c : Option (List ℕ)) → Consumes a b [] → ReadsLine line b c → ReadsLine line a c
ReadsLine-after line None b c none read = (tt, tt)
ReadsLine-after line (Some a) None c none read = elim none [ ]
ReadsLine-after line (Some a) (Some b) c none read = rw none read

pub ReadsLines-append : (first then : List (List ℕ)) (a b c : Option (List ℕ)) → ReadsLines first a b
    → ReadsLines then b c → ReadsLines (first ++ then) a c
ReadsLines-append [] [] a b c reads others = Consumes-trans a b c [] [] reads others
ReadsLines-append [] (line ∷ lines) a b c reads others =
    (others.0, ReadsLine-after line a b others.0 reads others.1, others.2)
ReadsLines-append (line ∷ lines) then a b c reads others =
    (reads.0, reads.1, ReadsLines-append lines then reads.0 b c reads.2 others)

-- all that is read
pub Consumes-lines : (lines : List (List ℕ)) (a b : Option (List ℕ)) → ReadsLines lines a b → Consumes a b (concat lines)
Consumes-lines [] a b reads = reads
Consumes-lines (line ∷ lines) a b reads =
    Consumes-trans a reads.0 b line (concat lines) reads.1.0 (Consumes-lines lines reads.0 b reads.2)

-- if nothing is left, that is all
pub all_read : (lines : List (List ℕ)) (a b : Option (List ℕ)) → ReadsLines lines a b → IsAtEnd b
    → IfSome a (λ bytes. bytes ≡ concat lines)
all_read lines None b reads end = tt
all_read lines (Some a) None reads end = elim (Consumes-lines lines (Some a) None reads) [ ]
all_read lines (Some a) (Some b) reads end =
    Consumes-lines lines (Some a) (Some b) reads ∙ ap (λ (rest : List ℕ). concat lines ++ rest) end
    ∙ append-nil (concat lines)

-- a line more
pub AreOfKinds-more : (coding : LineCoding) (lines : List (List ℕ)) (kinds : List LineKind) (values : List (List ℕ))
    (line : List ℕ) (kind : LineKind) (value : List ℕ) → AreOfKinds coding lines kinds values
    → IsOfKind coding line kind value
    → AreOfKinds coding (lines ++ line ∷ []) (kinds ++ kind ∷ []) (values ++ value ∷ [])
AreOfKinds-more coding [] [] [] line kind value are is = (is, tt)
AreOfKinds-more coding (x ∷ xs) (y ∷ ys) (z ∷ zs) line kind value are is =
    (are.0, AreOfKinds-more coding xs ys zs line kind value are.1 is)
AreOfKinds-more coding [] [] (z ∷ zs) line kind value are is = elim are [ ]
AreOfKinds-more coding [] (y ∷ ys) zs line kind value are is = elim are [ ]
AreOfKinds-more coding (x ∷ xs) [] zs line kind value are is = elim are [ ]
AreOfKinds-more coding (x ∷ xs) (y ∷ ys) [] line kind value are is = elim are [ ]

pub column_more : (coding : LineCoding) (lines : List (List ℕ)) (kinds more_kinds : List LineKind)
    (bytes more_bytes lengths more_lengths : List ℕ) (line : List ℕ) (kind : LineKind) (value : List ℕ)
    → IsColumnOf coding lines kinds bytes lengths → IsOfKind coding line kind value
    → more_kinds ≡ kinds ++ kind ∷ [] → more_bytes ≡ bytes ++ value → more_lengths ≡ lengths ++ length value ∷ []
    → IsColumnOf coding (lines ++ line ∷ []) more_kinds more_bytes more_lengths
column_more coding lines kinds more_kinds bytes more_bytes lengths more_lengths line kind value column is r b l =
    record {
      values = column.values ++ value ∷ [];
      read = rw r (AreOfKinds-more coding lines kinds column.values line kind value column.read is);
      joined = b ∙ ap (λ (front : List ℕ). front ++ value) column.joined
          ∙ sym (concat-append column.values (value ∷ []) ∙ ap (λ (end : List ℕ). concat column.values ++ end) (append-nil value));
      sizes = l ∙ ap (λ (front : List ℕ). front ++ length value ∷ []) column.sizes
          ∙ sym (map-append length column.values (value ∷ []));
    }
