-- How many bytes stand before padding, and how many with it.
use Rattle.std.proofs.Common.{◌≡◌, ◌≢◌, ℕ, ◌+◌, ◌%◌, ◌≤◌, List, ◌++◌, length, take, ap, sym, ◌∙◌, length-take-le}
use Rattle.std.proofs.lemmas.List.{append_cancel_left}
use Rattle.std.proofs.Math.Seq.{take-append-add}
use Rattle.des_io.specs.declared.padding.Padding.{Padding}
use Rattle.des_io.specs.declared.padding.Padding.TheVariants.{Pkcs7, Iso7816, Zeros, Unpadded}
use Rattle.des_io.specs.PaddedBytes.{padded, taken_off}
use Rattle.des_io.proofs.PaddedLists.{length-padded, padded-append, last_block}
use Rattle.des_context.specs.Paddings.{IsNumberOf, padded_length_of}
use Rattle.std.proofs.Common.{ℤ}

-- a padding with a number adds bytes, and they are taken off
pub pads : (method : ℤ) (padding : Padding) → IsNumberOf method padding → taken_off padding ≢ Unpadded
pads method Pkcs7 is = (λ e. cc)
pads method Iso7816 is = (λ e. cc)
pads method Zeros is = absurd is
pads method Unpadded is = absurd is

-- bytes that begin with others and their padding
pub counted : (padding : Padding) (bytes buffer : List ℕ) (n count : ℕ) → taken_off padding ≢ Unpadded
    → count ≤ length buffer → n ≤ length bytes → take n bytes ≡ padded padding (take count buffer)
    → n ≡ padded_length_of count
counted padding bytes buffer n count adds within fits same =
    sym (length-take-le n bytes fits) ∙ ap length same ∙ length-padded padding (take count buffer) adds
    ∙ ap padded_length_of (length-take-le count buffer within)

-- the last block of bytes with their padding is what it holds of the bytes, with the padding
pub last_padded : (padding : Padding) (plain prefix last : List ℕ) → taken_off padding ≢ Unpadded
    → length last ≡ 8 → length prefix % 8 ≡ 0 → padded padding plain ≡ prefix ++ last
    → (rest : List ℕ) × (plain ≡ prefix ++ rest) × (padded padding rest ≡ last)
last_padded padding plain prefix last adds eight whole same =
    let parts = last_block padding plain prefix last adds eight same in (
      parts.0,
      parts.1,
      append_cancel_left prefix (padded padding parts.0) last
          (sym (padded-append padding prefix parts.0 whole) ∙ ap (padded padding) (sym parts.1) ∙ same),
    )

-- and back: whole blocks before the last one change nothing
pub whole_padded : (padding : Padding) (bytes prefix last : List ℕ) (count : ℕ) → prefix ++ last ≡ bytes
    → length prefix % 8 ≡ 0 → padded padding (take count last) ≡ last
    → padded padding (take (length prefix + count) bytes) ≡ bytes
whole_padded padding bytes prefix last count joined whole same =
    ap (λ l. padded padding (take (length prefix + count) l)) (sym joined)
    ∙ ap (padded padding) (take-append-add prefix last count) ∙ padded-append padding prefix (take count last) whole
    ∙ ap (λ l. prefix ++ l) same ∙ joined
