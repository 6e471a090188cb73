-- The bytes of digits, read after read.
use Rattle.std.proofs.Common.{◌≡◌, ◌∙◌, ℕ, ◌<◌, List, [], ◌++◌, Result, Ok, Err, length, Option, Some, None, option_and_then, option_map, Bool, true, false, not, ◌&&◌, if◌then◌else◌, refl, sym, ap, inl, inr, eq-zero-or-pos, eqb-true, true≢false, is_some, ◌∷◌, ◌==◌, take, arith}
use Rattle.std.proofs.Math.Dec.{eqb-suc-zero}
use Rattle.std.proofs.lemmas.Bool.{and_parts, not-false}
use Rattle.std.specs.Io.KnownBytes.{prepend_known, Consumes, IsAtEnd, ReadConsumes}
use Rattle.base64.specs.Read.{Outlook, IsInvalid, IsOver}
use Rattle.base64.proofs.ReadLemmas.{over_is_end}
use Rattle.des_passwords.specs.Decoding.{after_all, Decodes, given_by, given_to}
use Rattle.des_passwords.specs.HexStreams.{after, byte_of, bytes_from, ends_short, is_whole}
use Rattle.des_passwords.specs.declared.hex_reader.Position.{Position}
use Rattle.des_passwords.proofs.DecodedTexts.{after_both, given_both, nothing_consumed, read_consumes}

known_both : (whole : Bool) (xs ys : List ℕ)
    → (if whole then Some (xs ++ ys) else None) ≡ prepend_known xs (if whole then Some ys else None)
known_both true xs ys = refl
known_both false xs ys = refl

pub from_both : (position next : Position) (xs ys : List ℕ) → next ≡ after_all after position xs
    → bytes_from position (xs ++ ys) ≡ prepend_known (given_by after byte_of position xs) (bytes_from next ys)
from_both position next xs ys is =
    rw (is, after_both after byte_of position xs ys, given_both after byte_of position xs ys)
    (known_both (is_whole (after_all after (after_all after position xs) ys)) _ _)

-- ---- what is to come

abbrev to_come : Position → Option (List ℕ) → Outlook
to_come position text = option_map (bytes_from position) text

abbrev in_outlook : Outlook → Option (List ℕ)
in_outlook outlook = option_and_then (λ bytes. bytes) outlook

given_first : (old new : Option (List ℕ)) (bytes : List ℕ) → old ≡ prepend_known bytes new
    → Consumes old new bytes × (IsInvalid (Some old) → IsInvalid (Some new))
given_first old None bytes is = rw is (tt, λ bad. refl)
given_first old (Some rest) bytes is = rw is (refl, λ bad. cc)

decoded : (read_from read_to : Option (List ℕ)) (position next : Position) (bytes : List ℕ)
    → Decodes after byte_of read_from read_to position next bytes
    → Consumes (in_outlook (to_come position read_from)) (in_outlook (to_come next read_to)) bytes
    × (IsInvalid (to_come position read_from) → IsInvalid (to_come next read_to))
decoded None read_to position next bytes decodes = (tt, λ bad. cc)
decoded (Some all) None position next bytes (text, read, is, moved) = absurd read
decoded (Some all) (Some rest) position next bytes (text, read, is, moved) =
    given_first _ _ bytes (ap (bytes_from position) read ∙ from_both position next text rest moved
    ∙ ap (λ (l : List ℕ). prepend_known l (bytes_from next rest)) (sym is))

-- ---- the end of what is read

over : (position : Position) (read_to : Option (List ℕ)) → is_whole position ≡ true → IsAtEnd read_to
    → IsOver (to_come position read_to)
unfolding after_all given_by
over position None whole end = tt
over position (Some rest) whole end = rw (end, whole) refl

-- a read that gave nothing, if there is room, and does not end short
whole_at_end : (next : Position) (buf : List ℕ) → (not (length buf == 0) && not (is_whole next)) ≡ false → 0 < length buf
    → (is_whole next ≡ true) × (is_some next.fault ≡ false)
whole_at_end next [] long some = absurd (omega (arith, some))
whole_at_end next (byte ∷ buf) long some =
    elim (is_some next.fault) as (λ t. not (not t && not (is_some next.first)) ≡ false
    → ((not t && not (is_some next.first)) ≡ true) × (t ≡ false)) [
      | true ↦ λ bad. absurd (true≢false bad)
      | false ↦ λ e. (not-false _ e, refl)
    ] (sym (ap (λ (t : Bool). not t && not (is_whole next)) (eqb-suc-zero (length buf))) ∙ long)

nothing_given_to : {E : Type 0} (next : Position) (given : Result ℕ E) (buf : List ℕ) → ends_short next given buf ≡ true
    → given_to given buf ≡ []
nothing_given_to next (Ok count) buf short =
    ap (λ (n : ℕ). take n buf) (eqb-true count 0 (and_parts (count == 0) _ short).0)
nothing_given_to next (Err error) buf short = refl

module _ {E : Type 0} (read_from read_to : Option (List ℕ)) (position next : Position) (given : Result ℕ E) (buf : List ℕ)
    (decodes : Decodes after byte_of read_from read_to position next (given_to given buf)) where
  abbrev IsAnswer : Result ℕ E → Type 0
  IsAnswer answer =
      ReadConsumes (in_outlook (to_come position read_from)) (in_outlook (to_come next read_to)) answer buf
      × (IsInvalid (to_come position read_from) → IsInvalid (to_come next read_to) × (answer ≡ Ok 0 → length buf ≡ 0))

  -- what was given is answered
  pub answered : (given ≡ Ok 0 → 0 < length buf → is_some next.fault ≡ false → IsAtEnd read_to)
      → ends_short next given buf ≡ false → IsAnswer given
  answered ends long =
      let read = decoded read_from read_to position next (given_to given buf) decodes in
      let end = λ (none : given ≡ Ok 0) (some : 0 < length buf).
      let whole = whole_at_end next buf (rw none at long) some in
      over_is_end (to_come next read_to) (over next read_to whole.0 (ends none some whole.1)) in (
        read_consumes _ _ given buf read.0 (λ none some. (end none some).0),
        λ bad. (
          read.1 bad,
          λ none. elim (eq-zero-or-pos (length buf)) [
            | inl full ↦ full
            | inr some ↦ absurd ((end none some).1 (read.1 bad))
          ],
        ),
      )

  -- a part of a text ends, or can't go on
  pub refused : (error : E) → ends_short next given buf ≡ true → IsAnswer (Err error)
  refused error short =
      let read = decoded read_from read_to position next (given_to given buf) decodes in
      (nothing_consumed _ _ (rw (nothing_given_to next given buf short) at read.0), λ bad. (read.1 bad, λ ok. cc))
