-- The first line of a text, and its other lines.
use Rattle.std.proofs.Common.{◌≡◌, ◌∙◌, ℕ, ◌+◌, ◌<◌, ◌≤◌, Bool, true, false, cond, List, [], ◌∷◌, ◌++◌, length, get_or, refl, sym, ap, subst, arith, append_assoc}
use Rattle.std.specs.Prelude.{◌==◌}
use Rattle.std.specs.List.{position_or_len, slice_split, onto_first, All}
use Rattle.std.specs.Str.Lines.{lines_of_parts, strip_carriage_return}
use Rattle.std.proofs.lemmas.Bool.{eqb-true}
use Rattle.std.proofs.Math.Dec.{eqb-suc-zero}
use Rattle.std.proofs.lemmas.List.{take_all, drop_all, length-take, get_or-take, append-nil}
use Rattle.std.proofs.lemmas.List.Splits.{slice_split_none, slice_split_at}
use Rattle.std.proofs.lemmas.List.Sums.{split_at_first, passes_at_first, fails_before_first}
use Rattle.des_passwords.specs.TextLines.{lines_of, before, after, IsLineBefore}

abbrev is_end : ℕ → Bool
is_end b = b == 10

-- there is one part at least
parts_some : (p : ℕ → Bool) (xs : List ℕ) → (y : List ℕ) × (more : List (List ℕ)) × (slice_split p xs ≡ y ∷ more)
parts_some p [] = ([], [], refl)
parts_some p (x ∷ xs) =
    let rest = parts_some p xs in
    elim (p x) as (λ t. (y : List ℕ) × (more : List (List ℕ))
    × (cond t ([] ∷ slice_split p xs) (onto_first x (slice_split p xs)) ≡ y ∷ more)) [
      | true ↦ ([], slice_split p xs, refl)
      | false ↦ (x ∷ rest.0, rest.1, ap (onto_first x) rest.2)
    ]

-- a line with its end, and what follows it
pub line_then : (line x : List ℕ) → All (λ b. is_end b ≡ false) line
    → lines_of (line ++ 10 ∷ x) ≡ strip_carriage_return line ∷ lines_of x
unfolding lines_of
line_then line x none =
    let next = parts_some is_end x in
    ap lines_of_parts (slice_split_at is_end line 10 x none refl)
    ∙ ap (λ (parts : List (List ℕ)). lines_of_parts (line ∷ parts)) next.2
    ∙ ap (λ (parts : List (List ℕ)). strip_carriage_return line ∷ lines_of_parts parts) (sym next.2)

-- a line with no end
pub line_last : (line : List ℕ) → All (λ b. is_end b ≡ false) line → 0 < length line → lines_of line ≡ line ∷ []
unfolding lines_of
line_last [] none some = absurd (omega arith)
line_last (b ∷ line) none some =
    ap lines_of_parts (slice_split_none is_end (b ∷ line) none)
    ∙ ap (λ (t : Bool). cond t [] ((b ∷ line) ∷ [])) (eqb-suc-zero (length line))

pub lines_none : lines_of [] ≡ []
unfolding lines_of
lines_none = refl

-- no byte before the first end of a line is one
before_plain : (text : List ℕ) → All (λ b. is_end b ≡ false) (before 10 text)
before_plain text k d within =
    let n = position_or_len is_end text in
    let long = length-take n text in
    let below : k < n = omega (arith, long) in
    rw (get_or-take n text k d below) (fails_before_first is_end text k d below)

-- a text with no end of a line is one line
pub lone_line : (text line rest : List ℕ) → 0 < length text → line ≡ before 10 text → rest ≡ after 10 text
    → length line ≡ length text → (lines_of text ≡ line ∷ lines_of rest) × IsLineBefore text line rest
lone_line text line rest some first last whole =
    let n = position_or_len is_end text in
    let long = length-take n text in
    let enough : length text ≤ n = omega (arith, long, ap length first) in
    let same : line ≡ text = first ∙ take_all n text enough in
    let nothing : rest ≡ [] = last ∙ drop_all (n + 1) text (omega arith) in
    let plain = subst (All (λ b. is_end b ≡ false)) (sym first) (before_plain text) in (
      ap lines_of (sym same) ∙ line_last line plain (omega arith)
          ∙ ap (λ (l : List (List ℕ)). line ∷ l) (sym lines_none ∙ ap lines_of (sym nothing)),
      (
        text,
        sym (append-nil text) ∙ ap (λ (l : List ℕ). text ++ l) (sym nothing),
        λ more. absurd (omega (
          arith,
          ap
              length nothing,
        )),
      ),
    )

-- the byte that the first line ends with
end_byte : (text : List ℕ) → position_or_len is_end text < length text
    → text ≡ before 10 text ++ 10 ∷ after 10 text
end_byte text within =
    let n = position_or_len is_end text in
    split_at_first is_end text 0 within
    ∙ ap (λ (b : ℕ). before 10 text ++ b ∷ after 10 text) (eqb-true (get_or text n 0) 10 (passes_at_first is_end text
    0 within))

-- the first of several lines, or of one with an end
pub ended_line : (text line cut rest : List ℕ) → cut ≡ before 10 text → rest ≡ after 10 text
    → (length cut ≡ length text → ⊥) → line ≡ strip_carriage_return cut
    → (lines_of text ≡ line ∷ lines_of rest) × IsLineBefore text line rest
ended_line text line cut rest first last part stripped =
    let n = position_or_len is_end text in
    let long = length-take n text in
    let within : n < length text = omega (arith, long, ap length first, part) in
    let plain = subst (All (λ b. is_end b ≡ false)) (sym first) (before_plain text) in
    let parts : text ≡ cut ++ 10 ∷ rest =
    end_byte text within ∙ ap (λ (l : List ℕ). l ++ 10 ∷ after 10 text) (sym first)
    ∙ ap (λ (l : List ℕ). cut ++ 10 ∷ l) (sym last) in
    let then = λ (x : List ℕ). line_then cut x plain ∙ ap (λ (l : List ℕ). l ∷ lines_of x) (sym stripped) in (
      ap lines_of parts ∙ then rest,
      (
        cut ++ 10 ∷ [],
        parts ∙ sym (append_assoc cut (10 ∷ []) rest),
        λ more x. ap lines_of (append_assoc cut (10 ∷ []) x) ∙ then x,
      ),
    )
