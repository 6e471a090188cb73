-- Pieces of bytes and of blocks, one after another.
use Rattle.std.proofs.Common.{◌≡◌, ℕ, zero, suc, ◌+◌, ◌-◌, ◌*◌, ◌/◌, ◌%◌, ◌≤◌, List, [], ◌∷◌, ◌++◌, length, take, drop, slice_range, refl, ap, sym, ◌∙◌, arith, drop_at, length-take-le, take-append-drop}
use Rattle.std.specs.Simd.{first_chunks}
use Rattle.std.proofs.lemmas.List.{take-append-le, length-drop}
use Rattle.des_io.specs.Streams.{joined}
use borrow.Rule.Slice.PartMut.{put_mid, post_of}
use lib.Seq.{take-add}

-- what was there, and a part behind it
pub take_split : (a b : ℕ) (old new : List ℕ) → a ≤ b → take a new ≡ take a old
    → take a old ++ slice_range new a b ≡ take b new
take_split a b old new h prefix =
    let same : a + (b - a) ≡ b = omega arith in
    ap (λ l. l ++ slice_range new a b) (sym prefix) ∙ sym (take-add a (b - a) new) ∙ ap (λ n. take n new) same

-- a part of what was written into a part
pub slice_range-put_mid : (a k n : ℕ) (xs ys : List ℕ) → a ≤ length xs → n ≤ length ys
    → slice_range (put_mid a k xs ys) a (a + n) ≡ take n ys
slice_range-put_mid a k n xs ys within fits =
    let same : (a + n) - a ≡ n = omega arith in
    let after = post_of a k xs in
    ap (take ((a + n) - a)) (drop_at (take a xs) (ys ++ after) a (length-take-le a xs within))
    ∙ ap (λ m. take m (ys ++ after)) same ∙ take-append-le n ys after fits

joined_first : (count : ℕ) (bytes : List ℕ) → length bytes ≡ 8 * count → joined (first_chunks 8 count bytes) ≡ bytes
joined_first zero [] size = refl
joined_first zero (byte ∷ bytes) size = absurd (omega (arith, size))
joined_first (suc count) bytes size =
    ap (λ l. take 8 bytes ++ l) (joined_first count (drop 8 bytes) (omega (arith, length-drop 8 bytes, size)))
    ∙ take-append-drop 8 bytes

-- bytes that are whole blocks are those of their blocks
pub joined_chunks : (bytes : List ℕ) → length bytes % 8 ≡ 0 → joined (first_chunks 8 (length bytes / 8) bytes) ≡ bytes
joined_chunks bytes whole = joined_first (length bytes / 8) bytes (omega (arith, whole))
