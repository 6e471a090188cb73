-- What a value of a column is around its encrypted blocks, and what its blocks are around the text.
use Rattle.std.specs.Prelude.{ℕ, ℤ, ◌==◌, nat_le, ◌&&◌, ◌-◌, ◌/◌, ◌%◌, if◌then◌else◌, List, [], ◌∷◌, ◌++◌, Option, Some, None, length, take, drop, replicate}
use Rattle.std.specs.List.{list_all}
use Rattle.std.specs.Simd.{first_chunks}
use Rattle.std.specs.Simd.Lanes.{zip2}
use Rattle.des.specs.Blocks.{IsBlock}
use Rattle.des.specs.Cbc.{xor_blocks, next_vector}
use Rattle.des_columns.specs.Mysql.{has_form, last_of}
use Rattle.des_columns.specs.declared.form.BlockMode.{BlockMode}
use Rattle.des_columns.specs.declared.form.BlockMode.TheVariants.{Ecb, Cbc}
use Rattle.des_columns.specs.declared.form.ValueForm.{ValueForm}
use Rattle.des_columns.specs.declared.form.ValueForm.TheVariants.{Mysql, Pkcs7, Unpadded}
use Rattle.des_columns.specs.declared.status.TheConstants.{OK, ERR_BLOCKS, ERR_NOT_ENCRYPTED, ERR_PADDING}

-- ---- around the blocks

-- why a value can't be decrypted
abbrev pub fault_before : ValueForm → List ℕ → Option ℤ
fault_before Mysql [] = None
fault_before Mysql (byte ∷ value) = if has_form (byte ∷ value) then None else Some ERR_NOT_ENCRYPTED
fault_before Pkcs7 [] = Some ERR_BLOCKS
fault_before form value = if length value % 8 == 0 then None else Some ERR_BLOCKS

-- the bytes that were encrypted: a value of MySQL has one before them
abbrev pub part_after : Option ℤ → ValueForm → List ℕ → List ℕ
part_after (Some fault) form value = []
part_after None Mysql value = drop 1 value
part_after None form value = value

abbrev pub part_of : ValueForm → List ℕ → List ℕ
part_of form value = part_after (fault_before form value) form value

abbrev pub blocks_of : ValueForm → List ℕ → List (List ℕ)
blocks_of form value = first_chunks 8 (length (part_of form value) / 8) (part_of form value)

-- ---- around the text

-- how many bytes stand before the padding of PKCS#7 (RFC 5652, section 6.3): n bytes, 1 to 8, each with the value n
abbrev pub pkcs7_size : ℕ → List ℕ → Option ℕ
pkcs7_size n plain =
    if nat_le 1 n && nat_le n 8 && nat_le n (length plain) && list_all (λ byte. byte == n) (drop (length plain - n) plain)
    then Some (length plain - n) else None

-- how many bytes of text what was decrypted has, if it ends with the padding: the last byte of MySQL's is the number of its bytes
abbrev pub size_in : ValueForm → List ℕ → Option ℕ
size_in Mysql plain = if nat_le (last_of plain) 8 then Some (length plain - last_of plain) else None
size_in Pkcs7 plain = pkcs7_size (last_of plain) plain
size_in Unpadded plain = Some (length plain)

-- what blocks of a value are, once each was decrypted
abbrev pub xored : BlockMode → List (List ℕ) → List (List ℕ) → List (List ℕ)
xored Ecb blocks answers = answers
xored (Cbc iv) blocks answers = zip2 xor_blocks answers (iv ∷ blocks)

-- the vector of a mode is a block
abbrev pub HasVector : BlockMode → Type 0
HasVector Ecb = Unit {0}
HasVector (Cbc iv) = IsBlock iv

-- the mode of the blocks after some
abbrev pub mode_after : BlockMode → List (List ℕ) → BlockMode
mode_after Ecb blocks = Ecb
mode_after (Cbc iv) blocks = Cbc (next_vector iv blocks)

-- ---- what is read

abbrev pub status_after : Option ℤ → Option ℕ → ℤ
status_after (Some fault) size = fault
status_after None (Some n) = OK
status_after None None = ERR_PADDING

abbrev pub text_after : Option ℤ → Option ℕ → List ℕ → List ℕ
text_after (Some fault) size plain = []
text_after None (Some n) plain = take n plain
text_after None None plain = []

-- status and text of a value of which this was decrypted
abbrev pub status_of : ValueForm → List ℕ → List ℕ → ℤ
status_of form value plain = status_after (fault_before form value) (size_in form plain)

abbrev pub text_of : ValueForm → List ℕ → List ℕ → List ℕ
text_of form value plain = text_after (fault_before form value) (size_in form plain) plain

-- a text in the place of its value, before zeros
abbrev pub filled_to : ℕ → List ℕ → List ℕ
filled_to size text = text ++ replicate (size - length text) 0
