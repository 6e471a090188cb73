-- Bytes with their padding: their length, those of a prefix of whole blocks, and that no two lists share them.
use Rattle.std.proofs.Common.{◌≡◌, ◌≢◌, ℕ, suc, ◌-◌, ◌%◌, ◌+◌, ◌≤◌, ◌<◌, List, [], ◌∷◌, ◌++◌, length, take, drop, get_or, refl, ap, ap₂, sym, ◌∙◌, arith, append_assoc, append-nil, length-append, length-take-le, take_at, take-append-drop, replicate, set}
use Rattle.std.proofs.lemmas.List.{take_more_set, length-replicate, get_or-replicate, get_or-append_right, take-append-le}
use Rattle.std.proofs.lemmas.Slice.{take-put_mid}
use Rattle.std.proofs.Math.ListN.{length-set}
use Rattle.des_io.specs.PaddedBytes.{padding_after, padded, taken_off}
use Rattle.des_io.specs.declared.padding.Padding.{Padding}
use Rattle.des_io.specs.declared.padding.Padding.TheVariants.{Pkcs7, Iso7816, Zeros, Unpadded}
use borrow.Rule.Slice.PartMut.{put_mid}

-- ---- how long padding is

-- the bytes that are missing from a block, or none
length-padding_after : (padding : Padding) (past : ℕ) → past < 8 → taken_off padding ≢ Unpadded
    → length (padding_after padding past) ≡ 8 - past
length-padding_after Pkcs7 past below pads = length-replicate (8 - past) (8 - past)
length-padding_after Iso7816 past below pads = ap suc (length-replicate (7 - past) 0) ∙ omega arith
length-padding_after Zeros past below pads = absurd (pads refl)
length-padding_after Unpadded past below pads = absurd (pads refl)

pub length-padded : (padding : Padding) (bytes : List ℕ) → taken_off padding ≢ Unpadded
    → length (padded padding bytes) ≡ length bytes + (8 - length bytes % 8)
length-padded padding bytes pads =
    length-append bytes (padding_after padding (length bytes % 8))
    ∙ ap (λ n. length bytes + n) (length-padding_after padding (length bytes % 8) (omega arith) pads)

-- with zeros
pub length-zeros : (bytes : List ℕ) → length (padded Zeros bytes) ≡ length bytes + (8 - length bytes % 8) % 8
length-zeros bytes =
    length-append bytes (padding_after Zeros (length bytes % 8))
    ∙ ap (λ n. length bytes + n) (length-replicate ((8 - length bytes % 8) % 8) 0)

-- what decryption takes off, it takes off
pub taken_off-twice : (padding : Padding) → taken_off (taken_off padding) ≡ taken_off padding
taken_off-twice Pkcs7 = refl
taken_off-twice Iso7816 = refl
taken_off-twice Zeros = refl
taken_off-twice Unpadded = refl

-- the bytes are the prefix of what they are with their padding
pub take-padded : (padding : Padding) (bytes : List ℕ) → take (length bytes) (padded padding bytes) ≡ bytes
take-padded padding bytes = take_at bytes (padding_after padding (length bytes % 8)) (length bytes) refl

-- ---- after whole blocks

-- bytes after whole blocks are padded as they are without them
pub padded-append : (padding : Padding) (prefix bytes : List ℕ) → length prefix % 8 ≡ 0
    → padded padding (prefix ++ bytes) ≡ prefix ++ padded padding bytes
padded-append padding prefix bytes whole =
    let past : length (prefix ++ bytes) % 8 ≡ length bytes % 8 = omega (arith, length-append prefix bytes, whole) in
    append_assoc prefix bytes (padding_after padding (length (prefix ++ bytes) % 8))
    ∙ ap (λ n. prefix ++ (bytes ++ padding_after padding n)) past

-- ---- no two lists have the same bytes with their padding

-- what stands at a place after the bytes
padded-at : (padding : Padding) (bytes : List ℕ) (i : ℕ) → length bytes ≤ i
    → get_or (padded padding bytes) i 0 ≡ get_or (padding_after padding (length bytes % 8)) (i - length bytes) 0
padded-at padding bytes i after = get_or-append_right bytes (padding_after padding (length bytes % 8))
    (length bytes) i 0 refl after

-- lists of different lengths have different ones
not_shorter : (padding : Padding) (a b : List ℕ) → padded (taken_off padding) a ≡ padded (taken_off padding) b
    → length a < length b → ⊥
not_shorter Zeros a b same shorter =
    let lengths : length a ≡ length b = ap length (sym (append-nil a) ∙ same ∙ append-nil b) in omega (arith, lengths)
not_shorter Unpadded a b same shorter =
    let lengths : length a ≡ length b = ap length (sym (append-nil a) ∙ same ∙ append-nil b) in omega (arith, lengths)
not_shorter Pkcs7 a b same shorter =
    let pads : taken_off Pkcs7 ≢ Unpadded = (λ e. cc) in
    let lengths : length a + (8 - length a % 8) ≡ length b + (8 - length b % 8) =
    sym (length-padded Pkcs7 a pads) ∙ ap length same ∙ length-padded Pkcs7 b pads in
    let i = length b in
    let first = get_or-replicate (8 - length a % 8) (i - length a) (8 - length a % 8) 0 (omega (arith, lengths)) in
    let second = get_or-replicate (8 - length b % 8) (i - length b) (8 - length b % 8) 0 (omega (arith, lengths)) in
    let counts : 8 - length a % 8 ≡ 8 - length b % 8 =
    sym first ∙ sym (padded-at Pkcs7 a i (omega arith)) ∙ ap (λ l. get_or l i 0) same
    ∙ padded-at Pkcs7 b i (omega arith) ∙ second in
    omega (arith, lengths, counts)
not_shorter Iso7816 a b same shorter =
    let pads : taken_off Iso7816 ≢ Unpadded = (λ e. cc) in
    let lengths : length a + (8 - length a % 8) ≡ length b + (8 - length b % 8) =
    sym (length-padded Iso7816 a pads) ∙ ap length same ∙ length-padded Iso7816 b pads in
    let i = length b in
    let next : i - length a ≡ suc (i - length a - 1) = omega arith in
    let first : get_or (padding_after Iso7816 (length a % 8)) (i - length a) 0 ≡ 0 =
    ap (λ n. get_or (128 ∷ replicate (7 - length a % 8) 0) n 0) next
    ∙ get_or-replicate (7 - length a % 8) (i - length a - 1) 0 0 (omega (arith, lengths)) in
    let here : i - length b ≡ 0 = omega arith in
    let second : get_or (padding_after Iso7816 (length b % 8)) (i - length b) 0 ≡ 128 =
    ap (λ n. get_or (128 ∷ replicate (7 - length b % 8) 0) n 0) here in
    let counts : 0 ≡ 128 =
    sym first ∙ sym (padded-at Iso7816 a i (omega arith)) ∙ ap (λ l. get_or l i 0) same
    ∙ padded-at Iso7816 b i (omega arith) ∙ second in
    omega (arith, counts)

-- a list is determined by its bytes with the padding that is taken off: taking it off gives the list back
pub padded-injective : (padding : Padding) (a b : List ℕ)
    → padded (taken_off padding) a ≡ padded (taken_off padding) b → a ≡ b
padded-injective padding a b same =
    let not_less : length a < length b → ⊥ = not_shorter padding a b same in
    let not_more : length b < length a → ⊥ = not_shorter padding b a (sym same) in
    let lengths : length a ≡ length b = omega arith in
    sym (take-padded (taken_off padding) a) ∙ ap₂ take lengths same ∙ take-padded (taken_off padding) b

-- ---- the last block

-- bytes with their padding that end in a block after whole ones are those whole ones, and bytes with that last block
pub last_block : (padding : Padding) (bytes prefix block : List ℕ) → taken_off padding ≢ Unpadded → length block ≡ 8
    → padded padding bytes ≡ prefix ++ block
    → (rest : List ℕ) × (bytes ≡ prefix ++ rest)
last_block padding bytes prefix block pads eight same =
    let lengths : length bytes + (8 - length bytes % 8) ≡ length prefix + 8 =
    sym (length-padded padding bytes pads) ∙ ap length same ∙ length-append prefix block
    ∙ ap (λ n. length prefix + n) eight in
    let within : length prefix ≤ length bytes = omega (arith, lengths) in
    let prefixes : take (length prefix) bytes ≡ prefix =
    sym (take-append-le (length prefix) bytes (padding_after padding (length bytes % 8)) within)
    ∙ ap (take (length prefix)) same ∙ take_at prefix block (length prefix) refl in (
      drop (length prefix) bytes,
      sym (take-append-drop (length prefix) bytes)
          ∙ ap (λ l. l ++ drop (length prefix) bytes) prefixes,
    )

-- ---- padding in a buffer

-- a byte 80 at a place, and zeros after it
pub iso7816-put : (bytes zeros : List ℕ) (count end : ℕ) → count < length bytes → end ≡ count + 8 - count % 8
    → zeros ≡ replicate (end - (count + 1)) 0
    → take end (put_mid (count + 1) (end - (count + 1)) (set bytes count 128) zeros) ≡ padded Iso7816 (take count bytes)
iso7816-put bytes zeros count end within is filled =
    let size : length (take count bytes) ≡ count = length-take-le count bytes (omega arith) in
    let left : end - (count + 1) ≡ 7 - length (take count bytes) % 8 = omega (arith, is, ap (λ n. n % 8) size) in
    let long : end ≡ count + 1 + length zeros =
    omega (arith, is, ap length filled ∙ length-replicate (end - (count + 1)) 0) in
    take-put_mid (count + 1) (end - (count + 1)) (set bytes count 128) zeros end long
    (omega (arith, length-set bytes count 128))
    ∙ ap (λ l. l ++ zeros) (take_more_set bytes count 128 within)
    ∙ append_assoc (take count bytes) (128 ∷ []) zeros
    ∙ ap (λ l. take count bytes ++ 128 ∷ l) (filled ∙ ap (λ n. replicate n 0) left)
