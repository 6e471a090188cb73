use Rattle.std.proofs.Common.{◌≡◌, inl, inr, ℕ, ℤ, ◌<◌, ◌≤◌, ◌++◌, List, [], length, take, drop, ap, ap₂, sym, ◌∙◌, subst, arith}
use Rattle.std.specs.List.{filter}
use Rattle.std.proofs.lemmas.List.{length-append, length-take-le, take-append-le}
use Rattle.std.proofs.lemmas.Slice.{take-put_mid_below}
use Rattle.des_columns.specs.Jasypt.{Encodes, Reads, ReadsBy, characters_of, inside, is_character}
use Rattle.des_columns.specs.Pbe.{derived_by}
use Rattle.des_columns.specs.declared.form.Reading.{Reading}
use Rattle.des_columns.specs.declared.pbe.Algorithm.{Algorithm}
use Rattle.des_columns.specs.declared.status.TheConstants.{ERR_BASE64, ERR_SALT_LENGTH}
use Rattle.des_columns.proofs.jasypt.read_value.Goals.{in-None, in-Some, in-Some-2}
use Rattle.des_columns.proofs.jasypt.read_value.Goals as goal

no-front : (xs : List ℕ) (size : ℕ) → size ≡ 0 → take size xs ≡ []
no-front xs size is = ap (λ n. take n xs) is

module _ (by : Algorithm) (count : ℕ) (password value characters : List ℕ) (are : characters ≡ characters_of value) where
  -- the characters encode nothing
  none-read : (status : ℤ) (text : List ℕ) → ((bytes : List ℕ) → Encodes bytes characters → ⊥) → status ≡ ERR_BASE64
      → text ≡ [] → Reads by count password value status text
  none-read status text none s t =
      inl ((λ bytes encodes. none bytes (subst (Encodes bytes) (sym are) encodes)), (s, t))

  -- they encode a part of a salt
  short-read : (bytes : List ℕ) (status : ℤ) (text : List ℕ) → Encodes bytes characters → length bytes < 8
      → status ≡ ERR_SALT_LENGTH → text ≡ [] → Reads by count password value status text
  short-read bytes status text encodes short s t =
      inr (bytes, subst (Encodes bytes) are encodes, inl (short, (s, t)))

  -- they encode a salt and what is encrypted, which were opened
  long-read : (bytes opened : List ℕ) (status read : ℤ) (text front : List ℕ) → Encodes bytes characters → 8 ≤ length bytes
      → opened ≡ bytes → status ≡ read → text ≡ front
      → ReadsBy by (derived_by by password (take 8 opened) count) (drop 8 opened) read front
      → Reads by count password value status text
  long-read bytes opened status read text front encodes long o s t reads =
      inr (bytes, subst (Encodes bytes) are encodes, inr (long, rw (← o, s, t) reads))

pub returns-clause-read : goal.returns-clause-read
returns-clause-read c =
    let by : Algorithm = c.args.by in
    let value : List ℕ = c.args.value.now in
    let characters : List ℕ = take c.write_characters-count.result c.write_characters-count.new.place in
    let behind : List ℕ = drop c.write_characters-count.result c.write_characters-count.new.place in
    let decoded : List ℕ = c.decode.new.characters in
    let are : characters ≡ characters_of value =
    c.write_characters-count.ensures.characters
    ∙ ap (filter is_character) (c.inside.ensures.inside ∙ ap inside c.trimmed.ensures.trimmed) in
    let status : ℤ = c.match-decode.reading.status in
    let size : ℕ = c.match-decode.reading.length in
    let place : List ℕ = c.match-decode.place in
    elim c.match-decode.branch [
      | in-None w ↦
          none-read by c.args.iterations c.args.password.now value characters are status _
          (c.decode.ensures.none w.in-None.is) (ap (λ (reading : Reading). reading.status) w.reading-is)
          (no-front _ size (ap (λ (reading : Reading). reading.length) w.reading-is))
      | in-Some w ↦
          short-read by c.args.iterations c.args.password.now value characters are (take w.in-Some.size decoded) status _
          w.in-Some.ensures.some
          (omega (arith, length-take-le w.in-Some.size decoded w.in-Some.ensures.within, w.if-size-lt8.true))
          (ap (λ (reading : Reading). reading.status) w.reading-is)
          (no-front _ size (ap (λ (reading : Reading). reading.length) w.reading-is))
      | in-Some-2 w ↦
          let opened : List ℕ = w.open-reading.new.bytes in
          let rest : List ℕ = drop w.in-Some.size (decoded ++ behind) in
          let same : size ≡ w.open-reading.result.length = ap (λ (reading : Reading). reading.length) w.reading-is in
          let within : size ≤ length place =
          omega (arith, same, w.open-reading.ensures.within, ap length w.place-is, length-append opened rest) in
          long-read by c.args.iterations c.args.password.now value characters are (take w.in-Some.size decoded) _ status
          w.open-reading.result.status _ (take w.open-reading.result.length opened) w.in-Some.ensures.some
          (omega (arith, length-take-le w.in-Some.size decoded w.in-Some.ensures.within, w.if-size-lt8.false))
          (take-append-le w.in-Some.size decoded behind w.in-Some.ensures.within)
          (ap (λ (reading : Reading). reading.status) w.reading-is)
          (take-put_mid_below size _ place c.fill.new.self size (omega arith) within ∙ ap₂ take same w.place-is
          ∙ take-append-le w.open-reading.result.length opened rest w.open-reading.ensures.within)
          w.open-reading.ensures.read
    ]
