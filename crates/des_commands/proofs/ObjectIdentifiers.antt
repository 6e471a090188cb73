-- The text of an object identifier, an octet after another.
use Rattle.std.proofs.Common.{◌≡◌, ◌∙◌, ℕ, ◌+◌, ◌*◌, ◌%◌, ◌<◌, ◌≤◌, ◌^◌, Bool, true, false, if◌then◌else◌, List, [], ◌∷◌, length, drop, get_or, Option, Some, None, unwrap_or, Result, IfOk, string_bytes, refl, sym, ap, subst}
use Rattle.std.proofs.lemmas.Bool.{lt-ltb, le-ltb}
use Rattle.std.proofs.lemmas.List.{drop_all, drop_more}
use Rattle.std.specs.declared.string.String.{String}
use Rattle.hex.specs.Hex.{encode_lower}
use Rattle.des_commands.specs.PrivateKeys.{arcs_after, object_identifier_text, with_number}

-- a number of more than 56 bits
pub arcs_large : (text : List ℕ) (number : ℕ) (is_whole : Bool) (octet : ℕ) (rest : List ℕ) → 2 ^ 56 ≤ number
    → arcs_after text number is_whole (octet ∷ rest) ≡ None
unfolding arcs_after
arcs_large text number is_whole octet rest large = rw (le-ltb number (2 ^ 56) large) refl

-- the last octet of a number, and another one
pub arcs_ended : (text : List ℕ) (number : ℕ) (is_whole : Bool) (octet : ℕ) (rest : List ℕ) → number < 2 ^ 56
    → octet < 128 → arcs_after text number is_whole (octet ∷ rest)
    ≡ arcs_after (with_number text (128 * number + octet % 128)) 0 true rest
unfolding arcs_after
arcs_ended text number is_whole octet rest small last = rw (lt-ltb number (2 ^ 56) small, lt-ltb octet 128 last) refl

pub arcs_go_on : (text : List ℕ) (number : ℕ) (is_whole : Bool) (octet : ℕ) (rest : List ℕ) → number < 2 ^ 56
    → 128 ≤ octet → arcs_after text number is_whole (octet ∷ rest)
    ≡ arcs_after text (128 * number + octet % 128) false rest
unfolding arcs_after
arcs_go_on text number is_whole octet rest small more = rw (lt-ltb number (2 ^ 56) small, le-ltb octet 128 more) refl

-- no octet is left
pub arcs_end : (text : List ℕ) (number : ℕ) (is_whole : Bool)
    → arcs_after text number is_whole [] ≡ (if is_whole then Some text else None)
unfolding arcs_after
arcs_end text number is_whole = refl

-- ---- all octets

-- the octets that are left, from a place on, give what all give
abbrev pub Reads : (contents text : List ℕ) (number : ℕ) (is_whole : Bool) (at : ℕ) → Type 0
Reads contents text number is_whole at =
    arcs_after text number is_whole (drop at contents) ≡ arcs_after [] 0 false contents

module _ (contents text : List ℕ) (number : ℕ) (is_whole : Bool) (at : ℕ) (reads : Reads contents text number is_whole at) where
  -- an octet is left
  module _ (within : at < length contents) where
    next : arcs_after text number is_whole (get_or contents at 0 ∷ drop (at + 1) contents) ≡ arcs_after [] 0 false contents
    next = sym (ap (arcs_after text number is_whole) (drop_more contents at 0 within)) ∙ reads

    pub reads_large : 2 ^ 56 ≤ number → arcs_after [] 0 false contents ≡ None
    reads_large large = sym next ∙ arcs_large text number is_whole (get_or contents at 0) (drop (at + 1) contents) large

    pub reads_ended : number < 2 ^ 56 → get_or contents at 0 < 128
        → Reads contents (with_number text (128 * number + get_or contents at 0 % 128)) 0 true (at + 1)
    reads_ended small last =
        sym (arcs_ended text number is_whole (get_or contents at 0) (drop (at + 1) contents) small last) ∙ next

    pub reads_on : number < 2 ^ 56 → 128 ≤ get_or contents at 0
        → Reads contents text (128 * number + get_or contents at 0 % 128) false (at + 1)
    reads_on small more =
        sym (arcs_go_on text number is_whole (get_or contents at 0) (drop (at + 1) contents) small more) ∙ next

  -- none is left
  pub reads_end : length contents ≤ at → arcs_after [] 0 false contents ≡ (if is_whole then Some text else None)
  reads_end end =
      sym reads ∙ ap (arcs_after text number is_whole) (drop_all at contents end) ∙ arcs_end text number is_whole

pub in_digits : {A E : Type 0} (result : Result (String A) E) (contents : List ℕ) → arcs_after [] 0 false contents ≡ None
    → IfOk result (λ text. string_bytes text ≡ encode_lower contents)
    → IfOk result (λ text. string_bytes text ≡ object_identifier_text contents)
in_digits result contents none is =
    subst (λ (o : Option (List ℕ)). IfOk result (λ text. string_bytes text ≡ unwrap_or o (encode_lower contents)))
    (sym none) is
