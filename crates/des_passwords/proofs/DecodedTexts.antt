-- What a text gives in parts, in place, and read after read.
use Rattle.std.proofs.Common.{◌≡◌, ◌∙◌, ℕ, ◌+◌, ◌<◌, ◌≤◌, List, [], ◌∷◌, ◌++◌, length, take, drop, get_or, set, Option, Some, None, Result, Ok, Err, option_and_then, option_map, refl, sym, ap, arith, append-nil}
use Rattle.std.proofs.lemmas.List.{drop_more, drop-set-lt, length-set, take_more, take_more_set}
use Rattle.std.proofs.KnownBytes.{Consumes-nil, Consumes-trans}
use Rattle.std.specs.Io.KnownBytes.{Consumes, Keeps, IsAtEnd, ReadConsumes}
use Rattle.des_passwords.specs.Decoding.{after_all, Decodes, given_by, given_to, in_front}

in_front-both : (o : Option ℕ) (xs ys : List ℕ) → in_front o (xs ++ ys) ≡ in_front o xs ++ ys
in_front-both None xs ys = refl
in_front-both (Some byte) xs ys = refl

module _ {P : Type 0} (after : P → ℕ → P) (given : P → ℕ → Option ℕ) where
  -- ---- parts of a text

  pub after_both : (position : P) (xs ys : List ℕ)
      → after_all after position (xs ++ ys) ≡ after_all after (after_all after position xs) ys
  unfolding after_all
  after_both position [] ys = refl
  after_both position (x ∷ xs) ys = after_both (after position x) xs ys

  pub given_both : (position : P) (xs ys : List ℕ) → given_by after given position (xs ++ ys)
      ≡ given_by after given position xs ++ given_by after given (after_all after position xs) ys
  unfolding after_all given_by
  given_both position [] ys = refl
  given_both position (x ∷ xs) ys =
      ap (in_front (given position x)) (given_both (after position x) xs ys) ∙ in_front-both (given position x) _ _

  -- what was read, and was read then
  pub decodes_then : (first second third : Option (List ℕ)) (position next last : P) (bytes : List ℕ)
      → Decodes after given first second position next [] → Decodes after given second third next last bytes
      → Decodes after given first third position last bytes
  decodes_then first second third position next last bytes (xs, read, none, is) (ys, read_more, more, moved) = (
    xs ++ ys,
    Consumes-trans first second third xs ys read read_more,
    more ∙ ap (λ (p : P). given_by after given p ys) is
        ∙ ap (λ (l : List ℕ). l ++ given_by after given (after_all after position xs) ys) none
        ∙ sym (given_both position xs ys),
    moved ∙ ap (λ (p : P). after_all after p ys) is ∙ sym (after_both position xs ys),
  )

  pub decodes_none : (text : Option (List ℕ)) (position : P) → Decodes after given text text position position []
  unfolding after_all given_by
  decodes_none text position = ([], Consumes-nil text, refl, refl)

  -- what is to come of a text
  pub decodes_consumes : (read_from read_to : Option (List ℕ)) (position next : P) (bytes : List ℕ)
      → Decodes after given read_from read_to position next bytes
      → Consumes (option_map (given_by after given position) read_from) (option_map (given_by after given next) read_to) bytes
  decodes_consumes None read_to position next bytes decodes = tt
  decodes_consumes (Some all) None position next bytes (text, read, is, moved) = absurd read
  decodes_consumes (Some all) (Some rest) position next bytes (text, read, is, moved) =
      ap (given_by after given position) read
      ∙ given_both position text rest
      ∙ ap (λ (l : List ℕ). l ++ given_by after given (after_all after position text) rest) (sym is)
      ∙ ap (λ (p : P). bytes ++ given_by after given p rest) (sym moved)

  pub nothing_given : (position : P) (text : Option (List ℕ)) → IsAtEnd text
      → IsAtEnd (option_map (given_by after given position) text)
  unfolding given_by
  nothing_given position None end = tt
  nothing_given position (Some text) end = ap (given_by after given position) end

  -- ---- a text in place

  -- what a text gives before the place `at` is moved to its front, and from there on it is as it was
  pub record IsSqueezed (start position : P) (all text : List ℕ) (at kept : ℕ) : Type 0 where
    pub bound : kept ≤ at
    pub size : length text ≡ length all
    pub rest : drop at text ≡ drop at all
    pub front : take kept text ≡ given_by after given start (take at all)
    pub position_is : position ≡ after_all after start (take at all)

  pub squeezed_begins : (start : P) (all : List ℕ) → IsSqueezed start start all all 0 0
  unfolding after_all given_by
  squeezed_begins start all =
      record { bound = omega arith; size = refl; rest = refl; front = refl; position_is = refl }

  module _ (start position : P) (all text : List ℕ) (at kept : ℕ) (so_far : IsSqueezed start position all text at kept)
      (within : at < length text) where
    abbrev byte : ℕ
    byte = get_or text at 0

    -- what is left of the text
    left : byte ∷ drop (at + 1) text ≡ get_or all at 0 ∷ drop (at + 1) all
    left = sym (drop_more text at 0 within) ∙ so_far.rest ∙ drop_more all at 0 (omega (arith, so_far.size, within))

    tail : drop (at + 1) text ≡ drop (at + 1) all
    tail = ap (λ (l : List ℕ). drop 1 l) left

    more : take (at + 1) all ≡ take at all ++ byte ∷ []
    more =
        take_more all at 0 (omega (arith, so_far.size, within))
        ∙ ap (λ (b : ℕ). take at all ++ b ∷ []) (sym (ap (λ (l : List ℕ). get_or l 0 0) left))

    given_more : take kept text ++ in_front (given position byte) [] ≡ given_by after given start (take (at + 1) all)
    unfolding given_by
    given_more =
        ap (λ (l : List ℕ). l ++ in_front (given position byte) []) so_far.front
        ∙ ap (λ (p : P). given_by after given start (take at all) ++ given_by after given p (byte ∷ [])) so_far.position_is
        ∙ sym (given_both start (take at all) (byte ∷ []))
        ∙ ap (given_by after given start) (sym more)

    position_more : after position byte ≡ after_all after start (take (at + 1) all)
    unfolding after_all
    position_more =
        ap (λ (p : P). after_all after p (byte ∷ [])) so_far.position_is
        ∙ sym (after_both start (take at all) (byte ∷ []))
        ∙ ap (after_all after start) (sym more)

    pub squeezed_none : given position byte ≡ None → IsSqueezed start (after position byte) all text (at + 1) kept
    squeezed_none none = record {
      bound = omega (arith, so_far.bound);
      size = so_far.size;
      rest = tail;
      front =
          sym (append-nil (take kept text)) ∙ ap (λ (o : Option ℕ). take kept text ++ in_front o []) (sym none) ∙ given_more;
      position_is = position_more;
    }

    pub squeezed_more : (out : ℕ) → given position byte ≡ Some out
        → IsSqueezed start (after position byte) all (set text kept out) (at + 1) (kept + 1)
    squeezed_more out some = record {
      bound = omega (arith, so_far.bound);
      size = length-set text kept out ∙ so_far.size;
      rest = drop-set-lt (at + 1) text kept out (omega (arith, so_far.bound)) ∙ tail;
      front =
          take_more_set text kept out (omega (arith, so_far.bound, within))
          ∙ ap (λ (o : Option ℕ). take kept text ++ in_front o []) (sym some) ∙ given_more;
      position_is = position_more;
    }

-- ---- a reader of what another gives

pub mapped : {X Y Z : Type 0} (f : Y → Z) (h : X → Y) (o : Option X)
    → option_map f (option_map h o) ≡ option_map (λ x. f (h x)) o
mapped f h None = refl
mapped f h (Some x) = refl

pub mapped_then : {X Y Z : Type 0} (f : Y → Option Z) (h : X → Y) (o : Option X)
    → option_and_then f (option_map h o) ≡ option_and_then (λ x. f (h x)) o
mapped_then f h None = refl
mapped_then f h (Some x) = refl

-- ---- what a read answers

pub nothing_consumed : (first second : Option (List ℕ)) → Consumes first second [] → Keeps first second
nothing_consumed None second reads = tt
nothing_consumed (Some text) None reads = absurd reads
nothing_consumed (Some text) (Some same) reads = sym reads

pub read_consumes : {E : Type 0} (first second : Option (List ℕ)) (result : Result ℕ E) (buf : List ℕ)
    → Consumes first second (given_to result buf) → (result ≡ Ok 0 → 0 < length buf → IsAtEnd second)
    → ReadConsumes first second result buf
read_consumes first second (Ok count) buf reads ends = (reads, λ none. ends (ap (λ (n : ℕ). Ok n) none))
read_consumes first second (Err error) buf reads ends = nothing_consumed first second reads
