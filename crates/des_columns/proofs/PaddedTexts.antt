-- Texts with their padding, and what stands before them.
use Rattle.std.proofs.Common.{◌≡◌, ℕ, ◌+◌, ◌-◌, ◌*◌, ◌/◌, ◌%◌, Bool, if◌then◌else◌, List, [], ◌∷◌, length, replicate, refl, ap, arith, length-append}
use Rattle.std.proofs.lemmas.Bool.{ne_eqb}
use Rattle.std.proofs.lemmas.List.{length-replicate}
use Rattle.des_columns.specs.Mysql.{padded, tail_after}
use Rattle.des_columns.specs.Writings.{IsTextSize, head_of, value_size}
use Rattle.des_columns.specs.declared.form.ValueForm.{ValueForm}
use Rattle.des_columns.specs.declared.form.ValueForm.TheVariants.{Mysql, Pkcs7, Unpadded}

pub length-starred : (text : List ℕ) → length (padded text) ≡ (length text / 8 + 1) * 8
length-starred text =
    let past : ℕ = length text % 8 in
    omega (
      arith,
      length-append text (tail_after past),
      length-append (replicate (7 - past) 42) ((8 - past) ∷ []),
      length-replicate {A = ℕ} (7 - past) 42,
    )

-- the value of a text that is not empty
pub value_size-some : (byte : ℕ) (text : List ℕ)
    → value_size Mysql (length (byte ∷ text)) ≡ (length (byte ∷ text) / 8 + 1) * 8 + 1
value_size-some byte text =
    let size : ℕ = length (byte ∷ text) in
    let P : Bool → ℕ = λ none. if none then 0 else (size / 8 + 1) * 8 + 1 in
    ap P (ne_eqb size 0 (λ none. omega (arith, none)))

-- what stands before the blocks of a value is the rest of it
pub head-filled : (form : ValueForm) (number : ℕ) (text : List ℕ) → IsTextSize form (length text)
    → replicate (value_size form (length text) % 8) (128 + number) ≡ head_of form number text
head-filled Mysql number [] is = refl
head-filled Mysql number (byte ∷ text) is =
    let one : value_size Mysql (length (byte ∷ text)) % 8 ≡ 1 = omega (arith, value_size-some byte text) in
    ap (λ n. replicate n (128 + number)) one
head-filled Pkcs7 number text is =
    let none : value_size Pkcs7 (length text) % 8 ≡ 0 = omega arith in
    ap (λ n. replicate n (128 + number)) none
head-filled Unpadded number text is = ap (λ n. replicate n (128 + number)) is
