-- The lines of a file of keys, byte after byte, and the keys of lines.
use Rattle.std.proofs.Common.{◌≡◌, ℕ, ◌+◌, ◌-◌, ◌≤◌, ◌<◌, Bool, true, false, if◌then◌else◌, Option, Some, None, List, [], ◌∷◌, ◌++◌, length, take, drop, get_or, refl, ap, sym, ◌∙◌, arith, length-drop, get_or-drop}
use Rattle.std.specs.Option.{option_map, option_or}
use Rattle.std.proofs.lemmas.List.{drop_more, take_more}
use Rattle.des_columns.specs.Mysql.{key_of}
use Rattle.des_columns.specs.KeyFile.{is_line, lines_after, string_at, string_in}

-- of three the first that there is
option_or-or : {A : Type 0} (a b c : Option A) → option_or (option_or a b) c ≡ option_or a (option_or b c)
option_or-or None b c = refl
option_or-or (Some x) b c = refl

option_map-or : {A B : Type 0} (f : A → B) (a b : Option A)
    → option_map f (option_or a b) ≡ option_or (option_map f a) (option_map f b)
option_map-or f None b = refl
option_map-or f (Some x) b = refl

-- what the bytes from a place on are, after those of a line that has begun
pub lines_after-more : (file : List ℕ) (start at : ℕ) → start ≤ at → at < length file
    → let line = take (at + 1 - start) (drop start file) in
    lines_after (take (at - start) (drop start file)) (drop at file)
    ≡ (if is_line line then line ∷ [] else []) ++ lines_after (if is_line line then [] else line) (drop (at + 1) file)
lines_after-more file start at from below =
    let byte : ℕ = get_or file at 0 in
    let begun : List ℕ = take (at - start) (drop start file) in
    let there : start + (at - start) ≡ at = omega (arith, from) in
    let more : at - start + 1 ≡ at + 1 - start = omega (arith, from) in
    let line : begun ++ byte ∷ [] ≡ take (at + 1 - start) (drop start file) =
    sym (ap (λ n. take n (drop start file)) (sym more)
    ∙ take_more (drop start file) (at - start) 0 (omega (arith, from, below, length-drop start file))
    ∙ ap (λ (x : ℕ). begun ++ x ∷ []) (get_or-drop start file (at - start) 0 ∙ ap (λ n. get_or file n 0) there)) in
    ap (lines_after begun) (drop_more file at 0 below)
    ∙ ap (λ (l : List ℕ). (if is_line l then l ∷ [] else []) ++ lines_after (if is_line l then [] else l) (drop (at + 1) file)) line

-- the key of a number in a line and in others, over an earlier one
pub key-in-line : (number : ℕ) (line : List ℕ) (lines : List (List ℕ)) (key : Option (List ℕ))
    → option_or (option_map key_of (string_in number (line ∷ lines))) key
    ≡ option_or (option_map key_of (string_in number lines)) (option_or (option_map key_of (string_at number line)) key)
key-in-line number line lines key =
    ap (λ (o : Option (List ℕ)). option_or o key) (option_map-or key_of (string_in number lines) (string_at number line))
    ∙ option_or-or (option_map key_of (string_in number lines)) (option_map key_of (string_at number line)) key

module _ (file : List ℕ) (keys : List (Option (List ℕ))) (number start at : ℕ) (from : start ≤ at) (below : at < length file) where
  -- bytes that are a line give its key
  pub line-taken : (now : List (Option (List ℕ))) → is_line (take (at + 1 - start) (drop start file)) ≡ true
      → get_or now number None
      ≡ option_or (option_map key_of (string_at number (take (at + 1 - start) (drop start file)))) (get_or keys number None)
      → option_or (option_map key_of (string_in number (lines_after [] (drop (at + 1) file)))) (get_or now number None)
      ≡ option_or (option_map key_of (string_in number (lines_after (take (at - start) (drop start file)) (drop at file))))
      (get_or keys number None)
  line-taken now is taken =
      let line : List ℕ = take (at + 1 - start) (drop start file) in
      let lines : List (List ℕ) = lines_after [] (drop (at + 1) file) in
      let key : List (List ℕ) → Option (List ℕ) = λ l. option_or (option_map key_of (string_in number l)) (get_or keys number None) in
      ap (option_or (option_map key_of (string_in number lines))) taken
      ∙ sym (key-in-line number line lines (get_or keys number None))
      ∙ ap (λ (b : Bool). key ((if b then line ∷ [] else []) ++ lines_after (if b then [] else line) (drop (at + 1) file))) (sym is)
      ∙ ap key (sym (lines_after-more file start at from below))

  -- and others none
  pub line-begun : is_line (take (at + 1 - start) (drop start file)) ≡ false
      → lines_after (take (at + 1 - start) (drop start file)) (drop (at + 1) file)
      ≡ lines_after (take (at - start) (drop start file)) (drop at file)
  line-begun is =
      let line : List ℕ = take (at + 1 - start) (drop start file) in
      ap (λ (b : Bool). (if b then line ∷ [] else []) ++ lines_after (if b then [] else line) (drop (at + 1) file)) (sym is)
      ∙ sym (lines_after-more file start at from below)
