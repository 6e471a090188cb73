-- The lines of the body of a key in PEM.
use Rattle.std.proofs.Common.{◌≡◌, ◌∙◌, ℕ, ◌+◌, ◌-◌, ◌<◌, false, List, [], ◌∷◌, ◌++◌, length, take, inl, inr, Result, Ok, Err, refl, sym, ap, subst, arith, append_assoc, length-append}
use Rattle.std.proofs.lemmas.Bool.{cases_lt}
use Rattle.std.proofs.lemmas.List.{append-nil, nil_from_length, take_at}
use Rattle.des_passwords.specs.Pem.{◌>>=◌, body_of, is_boundary}
use Rattle.des_passwords.specs.PemFaults.{Fault, End}
use Rattle.des_passwords.specs.TextLines.{lines_of, IsLineBefore}
use Rattle.des_passwords.proofs.LinesOfText.{lines_none}

abbrev ok : List (List ℕ) → Result (List (List ℕ)) Fault
ok body = Ok body

-- lines in front of a body
abbrev pub behind : List (List ℕ) → Result (List (List ℕ)) Fault → Result (List (List ℕ)) Fault
behind front (Ok body) = Ok (front ++ body)
behind front (Err e) = Err e

-- `front` and `rest` are the text; if something is left, what follows `front` begins a line; and the body is the
-- lines of `front`, and then those of the rest that are of it
pub record IsBodySoFar (last text front rest : List ℕ) : Type 0 where
  pub parts : text ≡ front ++ rest
  pub whole : 0 < length rest → (x : List ℕ) → lines_of (front ++ x) ≡ lines_of front ++ lines_of x
  pub read : body_of last (lines_of text) ≡ behind (lines_of front) (body_of last (lines_of rest))

behind_none : (r : Result (List (List ℕ)) Fault) → r ≡ behind [] r
behind_none (Ok body) = refl
behind_none (Err e) = refl

pub body_begins : (last text : List ℕ) → IsBodySoFar last text [] text
body_begins last text = record {
  parts = refl;
  whole = λ some x. ap (λ (l : List (List ℕ)). l ++ lines_of x) (sym lines_none);
  read =
      behind_none (body_of last (lines_of text))
      ∙ ap (λ (l : List (List ℕ)). behind l (body_of last (lines_of text))) (sym lines_none);
}

pub no_body : (last : List ℕ) (lines : List (List ℕ)) → lines ≡ [] → body_of last lines ≡ Err End
unfolding body_of
no_body last lines is = ap (body_of last) is

abbrev cons : List ℕ → List (List ℕ) → Result (List (List ℕ)) Fault
cons line body = Ok (line ∷ body)

told : (line : List ℕ) (r : Result (List (List ℕ)) Fault) → (r >>= λ body. cons line body) ≡ behind (line ∷ []) r
told line (Ok body) = refl
told line (Err e) = refl

pub within_body : (last line : List ℕ) (lines rest : List (List ℕ)) → lines ≡ line ∷ rest → is_boundary line ≡ false
    → body_of last lines ≡ behind (line ∷ []) (body_of last rest)
unfolding body_of
within_body last line lines rest is plain = ap (body_of last) is ∙ rw plain (told line (body_of last rest))

behind_both : (front more : List (List ℕ)) (r : Result (List (List ℕ)) Fault)
    → behind front (behind more r) ≡ behind (front ++ more) r
behind_both front more (Ok body) = ap (λ (l : List (List ℕ)). ok l) (sym (append_assoc front more body))
behind_both front more (Err e) = refl

-- one line, with its end, after the front
lines_more : (front end line : List ℕ) → ((x : List ℕ) → lines_of (front ++ x) ≡ lines_of front ++ lines_of x)
    → ((x : List ℕ) → lines_of (end ++ x) ≡ line ∷ lines_of x) → lines_of (front ++ end) ≡ lines_of front ++ (line ∷ [])
lines_more front end line whole then =
    whole end
    ∙ ap (λ (l : List ℕ). lines_of front ++ lines_of l) (sym (append-nil end))
    ∙ ap (λ (l : List (List ℕ)). lines_of front ++ l) (then [] ∙ ap (λ (l : List (List ℕ)). line ∷ l) lines_none)

whole_more : (front end line : List ℕ) → ((x : List ℕ) → lines_of (front ++ x) ≡ lines_of front ++ lines_of x)
    → ((x : List ℕ) → lines_of (end ++ x) ≡ line ∷ lines_of x)
    → (x : List ℕ) → lines_of ((front ++ end) ++ x) ≡ lines_of (front ++ end) ++ lines_of x
whole_more front end line whole then x =
    ap lines_of (append_assoc front end x)
    ∙ whole (end ++ x)
    ∙ ap (λ (l : List (List ℕ)). lines_of front ++ l) (then x)
    ∙ sym (append_assoc (lines_of front) (line ∷ []) (lines_of x))
    ∙ ap (λ (l : List (List ℕ)). l ++ lines_of x) (sym (lines_more front end line whole then))

-- if nothing is left, no line ends the body, whatever stands before
body_missing : (last rest : List ℕ) (front other : List (List ℕ)) → rest ≡ []
    → behind front (body_of last (lines_of rest)) ≡ behind other (body_of last (lines_of rest))
body_missing last rest front other none =
    let missing : body_of last (lines_of rest) ≡ Err End = no_body last (lines_of rest) (ap lines_of none
    ∙ lines_none) in
    ap (behind front) missing ∙ sym (ap (behind other) missing)

-- one line more
body_more : (last text front end line rest next : List ℕ) → IsBodySoFar last text front rest → rest ≡ end ++ next
    → 0 < length rest → lines_of rest ≡ line ∷ lines_of next → is_boundary line ≡ false
    → (0 < length next → (x : List ℕ) → lines_of (end ++ x) ≡ line ∷ lines_of x)
    → IsBodySoFar last text (front ++ end) next
body_more last text front end line rest next so_far parts some is plain then =
    let whole = so_far.whole some in
    let read : body_of last (lines_of text) ≡ behind (lines_of front ++ (line ∷ [])) (body_of last (lines_of next)) =
    so_far.read
    ∙ ap (behind (lines_of front)) (within_body last line (lines_of rest) (lines_of next) is plain)
    ∙ behind_both (lines_of front) (line ∷ []) (body_of last (lines_of next)) in
    record {
      parts = so_far.parts ∙ ap (λ (l : List ℕ). front ++ l) parts ∙ sym (append_assoc front end next);
      whole = λ more. whole_more front end line whole (then more);
      read =
          read
          ∙ elim (cases_lt 0 (length next)) [
            | inl more ↦
                ap (λ (l : List (List ℕ)). behind l (body_of last (lines_of next))) (sym (lines_more front end line
                whole (then more)))
            | inr none ↦ body_missing last next _ (lines_of (front ++ end)) (nil_from_length next (omega arith))
          ];
    }

-- the front is what stands before the rest
abbrev pub front_of : List ℕ → List ℕ → List ℕ
front_of text rest = take (length text - length rest) text

pub front_is : (text front rest : List ℕ) → text ≡ front ++ rest → front ≡ front_of text rest
front_is text front rest parts =
    let size : length front ≡ length text - length rest = omega (arith, ap length parts, length-append front rest) in
    sym (take_at front rest (length text - length rest) size) ∙ ap (take (length text - length rest)) (sym parts)

pub body_goes_on : (last text line rest next : List ℕ) → IsBodySoFar last text (front_of text rest) rest
    → length next < length rest → lines_of rest ≡ line ∷ lines_of next → is_boundary line ≡ false
    → IsLineBefore rest line next
    → IsBodySoFar last text (front_of text next) next
body_goes_on last text line rest next so_far shorter is plain before =
    let more = body_more last text (front_of text rest) before.0 line rest next so_far before.1 (omega arith) is
    plain before.2 in
    subst (λ (front : List ℕ). IsBodySoFar last text front next) (front_is text (front_of text rest ++ before.0) next
    more.parts) more
