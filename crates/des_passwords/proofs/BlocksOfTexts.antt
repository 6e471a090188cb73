-- What is hashed of texts in blocks, block by block, and as one.
use Rattle.std.proofs.Common.{◌≡◌, refl, ap, ap₂, sym, ◌∙◌, ℕ, zero, suc, ◌+◌, ◌*◌, ◌/◌, ◌≤◌, List, [], ◌∷◌, ◌++◌, length, take, drop, length-append, length-drop, take-append-drop, Option, None, arith}
use Rattle.std.proofs.lemmas.Grind.{flat_map-append}
use Rattle.std.proofs.lemmas.List.{take-append-le, drop-append-le}
use Rattle.std.specs.List.{flat_map}
use Rattle.std.specs.Simd.{first_chunks}
use Rattle.des_passwords.specs.Pkcs12.{copies, in_blocks, raised_by, all_raised_by}
use Rattle.des_passwords.proofs.CopiedTexts.{length-in_blocks}

-- the blocks that copies of a text have, raised by B
abbrev pub raised_copies : Option (List ℕ) → List ℕ → List ℕ → ℕ → List ℕ
raised_copies b text left count = flat_map (raised_by b) (first_chunks 64 count (copies text left (64 * count)))

front : (xs ys : List ℕ) → take (length xs) (xs ++ ys) ≡ xs
front [] ys = refl
front (x ∷ xs) ys = ap (λ (l : List ℕ). x ∷ l) (front xs ys)

back : (xs ys : List ℕ) → drop (length xs) (xs ++ ys) ≡ ys
back [] ys = refl
back (x ∷ xs) ys = back xs ys

-- the first, and the others
pub raised_more : (b : Option (List ℕ)) (text left next block : List ℕ) (count : ℕ) → length block ≡ 64
    → copies text left (64 * suc count) ≡ block ++ copies text next (64 * count)
    → raised_copies b text left (suc count) ≡ raised_by b block ++ raised_copies b text next count
raised_more b text left next block count size parts =
    let others = copies text next (64 * count) in
    let first : take 64 (block ++ others) ≡ block =
    ap (λ n. take n (block ++ others)) (sym size) ∙ front block others in
    let rest : drop 64 (block ++ others) ≡ others =
    ap (λ n. drop n (block ++ others)) (sym size) ∙ back block others in
    ap (λ (l : List ℕ). flat_map (raised_by b) (first_chunks 64 (suc count) l)) parts
    ∙ ap₂ (λ (x y : List ℕ). raised_by b x ++ flat_map (raised_by b) (first_chunks 64 count y)) first rest

-- blocks behind others
chunks-append : (count more : ℕ) (xs ys : List ℕ) → length xs ≡ 64 * count
    → first_chunks 64 (count + more) (xs ++ ys) ≡ first_chunks 64 count xs ++ first_chunks 64 more ys
chunks-append zero more [] ys size = ap (λ n. first_chunks 64 n ys) (omega arith)
chunks-append zero more (x ∷ xs) ys size = absurd (omega (arith, size))
chunks-append (suc count) more xs ys size =
    let within : 64 ≤ length xs = omega (arith, size) in
    let rest : length (drop 64 xs) ≡ 64 * count = omega (arith, size, length-drop 64 xs) in
    let sum : suc count + more ≡ suc (count + more) = omega arith in
    ap (λ n. first_chunks 64 n (xs ++ ys)) sum
    ∙ ap₂ (λ (x y : List ℕ). x ∷ first_chunks 64 (count + more) y) (take-append-le 64 xs ys within) (drop-append-le 64 xs ys within)
    ∙ ap (λ (l : List (List ℕ)). take 64 xs ∷ l) (chunks-append count more (drop 64 xs) ys rest)

-- of I, which is S || P
pub both_raised : (b : Option (List ℕ)) (salt password : List ℕ)
    → all_raised_by b (in_blocks salt ++ in_blocks password)
    ≡ raised_copies b salt salt ((length salt + 63) / 64) ++ raised_copies b password password ((length password + 63) / 64)
both_raised b salt password =
    let s = in_blocks salt in
    let p = in_blocks password in
    let count = (length salt + 63) / 64 in
    let more = (length password + 63) / 64 in
    let all : length (s ++ p) / 64 ≡ count + more =
    omega (arith, length-append s p, length-in_blocks salt, length-in_blocks password) in
    ap (λ n. flat_map (raised_by b) (first_chunks 64 n (s ++ p))) all
    ∙ ap (flat_map (raised_by b)) (chunks-append count more s p (length-in_blocks salt))
    ∙ flat_map-append (raised_by b) (first_chunks 64 count s) (first_chunks 64 more p)

-- with no B it is I
whole : (count : ℕ) (xs : List ℕ) → length xs ≡ 64 * count
    → flat_map (raised_by None) (first_chunks 64 count xs) ≡ xs
whole zero [] size = refl
whole zero (x ∷ xs) size = absurd (omega (arith, size))
whole (suc count) xs size =
    ap (λ (l : List ℕ). take 64 xs ++ l) (whole count (drop 64 xs) (omega (arith, size, length-drop 64 xs)))
    ∙ take-append-drop 64 xs

pub none_raised : (salt password : List ℕ)
    → all_raised_by None (in_blocks salt ++ in_blocks password) ≡ in_blocks salt ++ in_blocks password
none_raised salt password =
    let i = in_blocks salt ++ in_blocks password in
    let count = (length salt + 63) / 64 + (length password + 63) / 64 in
    let size : length i ≡ 64 * (length i / 64) =
    omega (arith, length-append (in_blocks salt) (in_blocks password), length-in_blocks salt, length-in_blocks password) in
    whole (length i / 64) i size
