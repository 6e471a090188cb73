-- Base64 a group of four characters at a time.
use Rattle.std.proofs.Common.{◌≡◌, ℕ, ◌+◌, ◌*◌, ◌/◌, ◌%◌, ◌<◌, ◌≤◌, List, ◌++◌, length, take, drop, replicate, Ok, Err, refl, ap, ap₂, sym, ◌∙◌, arith, inl, inr, take-add, take-append-drop}
use Rattle.std.proofs.lemmas.Bool.{cases_lt}
use Rattle.std.proofs.lemmas.List.{length-append, length-drop, length-replicate, length-take-le, take_all, take_at}
use Rattle.std.proofs.lemmas.List.Elements.{All-drop, All-take}
use Rattle.std.proofs.Math.ListN.{get_or-eq_default}
use Rattle.base64.specs.Engines.{standard}
use Rattle.base64.specs.GeneralPurpose.{IsBytes, decode_of, encode_of}
use Rattle.base64.specs.Rfc4648.{encode_symbols, padding_len}
use Rattle.base64.specs.declared.decode.DecodeError.{DecodeError}
use Rattle.base64.proofs.EngineFacts.{decode_of-encode_of, decode_of_strict, encode_of-append}
use Rattle.base64.proofs.RoundTrip.{drop_encoded, length-encode_symbols}
use Rattle.des.specs.Blocks.{AreBytes}
use Rattle.des_columns.specs.Jasypt.{Encodes}

abbrev symbols : List ℕ
symbols = standard.encode_table

-- four characters for three bytes, or for those that are left
pub length-encoded : (bytes : List ℕ) → length (encode_of standard bytes) ≡ (length bytes + 2) / 3 * 4
length-encoded bytes =
    omega (
      arith,
      length-append (encode_symbols symbols bytes) (replicate (padding_len (length bytes)) 61),
      length-encode_symbols symbols bytes,
      length-replicate {A = ℕ} (padding_len (length bytes)) 61,
    )

-- the groups from one on
drop-groups : (bytes : List ℕ) (g : ℕ) → 3 * g ≤ length bytes
    → drop (4 * g) (encode_of standard bytes) ≡ encode_of standard (drop (3 * g) bytes)
drop-groups bytes g within =
    let same : padding_len (length bytes) ≡ padding_len (length (drop (3 * g) bytes)) =
    omega (arith, within, length-drop (3 * g) bytes) in
    drop_encoded symbols bytes (replicate (padding_len (length bytes)) 61) g within
    ∙ ap (λ n. encode_symbols symbols (drop (3 * g) bytes) ++ replicate n 61) same

-- the first group
take-group : (bytes : List ℕ) → take 4 (encode_of standard bytes) ≡ encode_of standard (take 3 bytes)
take-group bytes = elim (cases_lt (length bytes) 3) [
  | inl short ↦
      take_all 4 (encode_of standard bytes) (omega (arith, length-encoded bytes, short))
      ∙ ap (encode_of standard) (sym (take_all 3 bytes (omega (arith, short))))
  | inr long ↦
      let three : length (take 3 bytes) ≡ 3 = length-take-le 3 bytes long in
      ap (λ l. take 4 (encode_of standard l)) (sym (take-append-drop 3 bytes))
      ∙ ap (take 4) (encode_of-append standard (take 3 bytes) (drop 3 bytes) (omega (arith, three)))
      ∙ take_at (encode_of standard (take 3 bytes)) (encode_of standard (drop 3 bytes)) 4
      (omega (arith, length-encoded (take 3 bytes), three))
]

-- a group is that of its three bytes, or of the last ones
group-encoded : (bytes : List ℕ) (g : ℕ) → 3 * g ≤ length bytes
    → take 4 (drop (4 * g) (encode_of standard bytes)) ≡ encode_of standard (take 3 (drop (3 * g) bytes))
group-encoded bytes g within = ap (take 4) (drop-groups bytes g within) ∙ take-group (drop (3 * g) bytes)

are-IsBytes : (bytes : List ℕ) → AreBytes bytes → IsBytes bytes
are-IsBytes bytes are i = elim (cases_lt i (length bytes)) [
  | inl within ↦ are i 0 within
  | inr beyond ↦ rw (get_or-eq_default bytes 0 beyond) (omega arith)
]

-- a group more
pub group-more : (characters before more group : List ℕ) (g : ℕ) → encode_of standard before ≡ take (4 * g) characters
    → length before % 3 ≡ 0 → group ≡ take 4 (drop (4 * g) characters) → AreBytes group
    → decode_of standard group ≡ Ok more → encode_of standard (before ++ more) ≡ take (4 * g + 4) characters
group-more characters before more group g encoded whole is bytes decoded =
    encode_of-append standard before more whole
    ∙ ap₂ ◌++◌ encoded (sym (decode_of_strict standard group more (refl, refl) (are-IsBytes group bytes) decoded) ∙ is)
    ∙ sym (take-add (4 * g) 4 characters)

-- what a group of encoded bytes decodes to
pub group-decoded : (bytes characters group : List ℕ) (g : ℕ) → Encodes bytes characters → 4 * g < length characters
    → group ≡ take 4 (drop (4 * g) characters) → decode_of standard group ≡ Ok (take 3 (drop (3 * g) bytes))
group-decoded bytes characters group g encodes within is =
    let inside : 3 * g ≤ length bytes = omega (arith, within, ap length encodes.1, length-encoded bytes) in
    let part : AreBytes (take 3 (drop (3 * g) bytes)) =
    All-take (λ byte. byte < 256) 3 (drop (3 * g) bytes) (All-drop (λ byte. byte < 256) (3 * g) bytes encodes.0) in
    ap (decode_of standard) (is ∙ ap (λ l. take 4 (drop (4 * g) l)) encodes.1 ∙ group-encoded bytes g inside)
    ∙ decode_of-encode_of standard (take 3 (drop (3 * g) bytes)) refl (are-IsBytes _ part)

-- no group of them fails
pub no-failure : (bytes characters group : List ℕ) (error : DecodeError) (g : ℕ) → Encodes bytes characters
    → 4 * g < length characters → group ≡ take 4 (drop (4 * g) characters) → decode_of standard group ≡ Err error → ⊥
no-failure bytes characters group error g encodes within is failed =
    let decoded = group-decoded bytes characters group g encodes within is in
    cc

-- and all but the last have three bytes
pub group-whole : (bytes characters group more : List ℕ) (g : ℕ) → Encodes bytes characters → 4 * g + 4 < length characters
    → group ≡ take 4 (drop (4 * g) characters) → decode_of standard group ≡ Ok more → length more ≡ 3
group-whole bytes characters group more g encodes within is decodes =
    let decoded = group-decoded bytes characters group g encodes (omega (arith, within)) is in
    let same : more ≡ take 3 (drop (3 * g) bytes) = cc in
    ap length same
    ∙ length-take-le 3 (drop (3 * g) bytes)
    (omega (arith, within, ap length encodes.1, length-encoded bytes, length-drop (3 * g) bytes))
