-- A string that is written of a text is read as it.
use Rattle.std.proofs.Common.{◌≡◌, inr, ℕ, zero, suc, ◌-◌, ◌==◌, ◌&&◌, not, nat_eq, Bool, true, false, if◌then◌else◌, List, [], ◌∷◌, ◌++◌, codes, length, take, drop, replicate, get_or, refl, ap, ◌∙◌, arith, length-append}
use Rattle.std.specs.Char.{is_ascii_whitespace}
use Rattle.std.specs.List.{ends_with, filter, list_all, prefix_len, starts_with, suffix_len}
use Rattle.std.proofs.lemmas.Bool.{and_parts, ne_eqb, not-true}
use Rattle.std.proofs.lemmas.List.{drop_at, take_all, take_at}
use Rattle.std.proofs.lemmas.List.Folds.{list_all-append}
use Rattle.std.proofs.lemmas.List.Sums.{prefix_len_is, suffix_len_is}
use Rattle.base64.specs.Engines.{standard}
use Rattle.base64.specs.GeneralPurpose.{encode_of}
use Rattle.base64.specs.Rfc4648.{encode_symbols}
use Rattle.des.specs.Blocks.{AreBytes}
use Rattle.des_passwords.specs.TextLines.{trimmed, without_blanks_after}
use Rattle.des_columns.specs.Jasypt.{IsWritten, Reads, WritesBy, characters_of, inside, is_character, relation_by}
use Rattle.des_columns.specs.Pbe.{derived_by, key_size}
use Rattle.des_columns.specs.Writings.{value_size}
use Rattle.des_columns.specs.declared.form.BlockMode.TheVariants.{Cbc}
use Rattle.des_columns.specs.declared.form.ValueForm.TheVariants.{Pkcs7}
use Rattle.des_columns.specs.declared.pbe.Algorithm.{Algorithm}
use Rattle.des_columns.specs.declared.status.TheConstants.{OK}
use Rattle.des_columns.proofs.TextsOfValues.{writing-read}

-- ---- the characters of Base64 are no white space, and none of them is `(`

is_symbol : ℕ → Bool
is_symbol c = not (is_ascii_whitespace c) && not (c == 40)

symbol-at : (xs : List ℕ) (i : ℕ) → list_all is_symbol xs ≡ true → is_symbol (get_or xs i 0) ≡ true
unfolding is_symbol
symbol-at [] i all = refl
symbol-at (x ∷ xs) zero all = (and_parts (is_symbol x) (list_all is_symbol xs) all).0
symbol-at (x ∷ xs) (suc i) all = symbol-at xs i (and_parts (is_symbol x) (list_all is_symbol xs) all).1

of-table : (i : ℕ) → is_symbol (get_or standard.encode_table i 0) ≡ true
unfolding is_symbol
of-table i = symbol-at standard.encode_table i refl

symbols-encoded : (bytes : List ℕ) → list_all is_symbol (encode_symbols standard.encode_table bytes) ≡ true
unfolding encode_symbols
symbols-encoded [] = refl
symbols-encoded (a ∷ []) = simp of-table
symbols-encoded (a ∷ b ∷ []) = simp of-table
symbols-encoded (a ∷ b ∷ c ∷ bytes) = simp of-table (symbols-encoded bytes)

equals-signs : (n : ℕ) → list_all is_symbol (replicate n 61) ≡ true
unfolding is_symbol
equals-signs zero = refl
equals-signs (suc n) = equals-signs n

are-symbols : (bytes : List ℕ) → list_all is_symbol (encode_of standard bytes) ≡ true
are-symbols bytes = simp (list_all-append is_symbol, symbols-encoded bytes, equals-signs)

-- ---- so they are all of a string

no-blank : (c : ℕ) → is_symbol c ≡ true → is_ascii_whitespace c ≡ false
unfolding is_symbol
no-blank c symbol = not-true (is_ascii_whitespace c) (and_parts (not (is_ascii_whitespace c)) (not (c == 40)) symbol).0

no-bracket : (c : ℕ) → is_symbol c ≡ true → nat_eq 40 c ≡ false
unfolding is_symbol
no-bracket c symbol = ne_eqb 40 c (λ same. let none : is_symbol 40 ≡ true = ap is_symbol same ∙ symbol in cc none)

kept : (xs : List ℕ) → list_all is_symbol xs ≡ true → filter is_character xs ≡ xs
kept [] all = refl
kept (x ∷ xs) all =
    let both = and_parts (is_symbol x) (list_all is_symbol xs) all in
    ap (λ b. if not b then x ∷ filter is_character xs else filter is_character xs) (no-blank x both.0)
    ∙ ap (λ l. x ∷ l) (kept xs both.1)

no-trim : (xs : List ℕ) → list_all is_symbol xs ≡ true → trimmed xs ≡ xs
unfolding trimmed
no-trim xs all =
    let start : prefix_len is_ascii_whitespace xs ≡ 0 =
    prefix_len_is is_ascii_whitespace xs 0 0 (omega arith) (λ k below. absurd (omega (arith, below)))
    (λ some. no-blank (get_or xs 0 0) (symbol-at xs 0 all)) in
    let end : suffix_len is_ascii_whitespace xs ≡ length xs - length xs =
    suffix_len_is is_ascii_whitespace xs (length xs) 0 (omega arith) (λ k from below. absurd (omega (arith, from, below)))
    (λ some. no-blank (get_or xs (length xs - 1) 0) (symbol-at xs (length xs - 1) all)) in
    ap (λ n. without_blanks_after (drop n xs)) start ∙ ap (λ n. take (length xs - n) xs) end
    ∙ take_all (length xs - (length xs - length xs)) xs (omega arith)

and-false : (b : Bool) → (b && false) ≡ false
and-false true = refl
and-false false = refl

not-begun : (xs : List ℕ) → list_all is_symbol xs ≡ true → starts_with nat_eq xs (codes "ENC(") ≡ false
not-begun [] all = refl
not-begun (a ∷ []) all = and-false (nat_eq 69 a)
not-begun (a ∷ b ∷ []) all = simp and-false
not-begun (a ∷ b ∷ c ∷ []) all = simp and-false
not-begun (a ∷ b ∷ c ∷ d ∷ xs) all = simp (no-bracket d (symbol-at (a ∷ b ∷ c ∷ d ∷ xs) 3 all), and-false)

not-enclosed : (xs : List ℕ) → list_all is_symbol xs ≡ true → inside xs ≡ xs
not-enclosed xs all =
    ap (λ t. if t && ends_with nat_eq (drop 4 xs) (codes ")") then take (length xs - 5) (drop 4 xs) else xs) (not-begun xs all)

pub jasypt-read : (by : Algorithm) (count : ℕ) (password salt text value : List ℕ) → length salt ≡ 8
    → (written : IsWritten by count password (salt ++ text) value) → AreBytes (salt ++ written.encrypted)
    → length written.encrypted ≡ value_size Pkcs7 (length text) → Reads by count password value OK text
jasypt-read by count password salt text value eight written bytes size =
    let encrypted : List ℕ = written.encrypted in
    let front : take 8 (salt ++ text) ≡ salt = take_at salt text 8 eight in
    let string : List ℕ = encode_of standard (salt ++ encrypted) in
    let is : value ≡ string = written.value_is ∙ ap (λ l. encode_of standard (l ++ encrypted)) front in
    let all : list_all is_symbol string ≡ true = are-symbols (salt ++ encrypted) in
    let characters : characters_of value ≡ string =
    ap characters_of is
    ∙ ap (λ l. filter is_character (inside l)) (no-trim string all)
    ∙ ap (filter is_character) (not-enclosed string all)
    ∙ kept string all in
    let writes : WritesBy by (derived_by by password (take 8 (salt ++ encrypted)) count) text encrypted =
    rw (take_at salt encrypted 8 eight) (rw (front, drop_at salt text 8 eight) at written.writes) in
    let both : List ℕ = derived_by by password (take 8 (salt ++ encrypted)) count in
    inr (
      salt ++ encrypted,
      (bytes, characters),
      inr (
        omega (arith, length-append salt encrypted, eight),
        rw (drop_at salt encrypted 8 eight)
            (writing-read (Cbc (drop (key_size by) both)) (relation_by by (take (key_size by) both)) Pkcs7 0 text encrypted tt size
            writes),
      ),
    )
