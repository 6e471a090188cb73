-- Bytes and the blocks that they are.
use Rattle.std.proofs.Common.{◌≡◌, ℕ, zero, suc, ◌*◌, ◌/◌, ◌%◌, List, [], ◌∷◌, ◌++◌, length, take, drop, refl, ap, ◌∙◌, arith, take-append-drop}
use Rattle.std.specs.Simd.{first_chunks}
use Rattle.std.proofs.lemmas.List.{length-drop}
use Rattle.des_columns.specs.EncryptedBytes.{joined}

joined_first : (count : ℕ) (bytes : List ℕ) → length bytes ≡ 8 * count → joined (first_chunks 8 count bytes) ≡ bytes
joined_first zero [] size = refl
joined_first zero (byte ∷ bytes) size = absurd (omega (arith, size))
joined_first (suc count) bytes size =
    ap (λ l. take 8 bytes ++ l) (joined_first count (drop 8 bytes) (omega (arith, length-drop 8 bytes, size)))
    ∙ take-append-drop 8 bytes

-- bytes that are whole blocks are those of their blocks
pub joined_chunks : (bytes : List ℕ) → length bytes % 8 ≡ 0 → joined (first_chunks 8 (length bytes / 8) bytes) ≡ bytes
joined_chunks bytes whole = joined_first (length bytes / 8) bytes (omega (arith, whole))
