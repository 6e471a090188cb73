-- The blocks of values, decrypted together and in pieces.
use Rattle.std.proofs.Common.{◌≡◌, ℕ, zero, suc, ◌+◌, ◌-◌, ◌*◌, ◌/◌, ◌≤◌, List, [], ◌∷◌, ◌++◌, length, take, drop, map, refl, ap, ap₂, sym, ◌∙◌, arith}
use Rattle.std.specs.List.{flat_map}
use Rattle.std.specs.Simd.{first_chunks}
use Rattle.std.specs.Simd.Lanes.{zip2}
use Rattle.std.proofs.lemmas.List.{drop-drop, drop-take, map-append, take-take}
use Rattle.des.specs.Cbc.{xor_blocks, next_vector}
use Rattle.des.proofs.ChainedPieces.{next_vector-append}
use Rattle.des_columns.specs.Forms.{xored, mode_after}
use Rattle.des_columns.specs.declared.form.BlockMode.{BlockMode}
use Rattle.des_columns.specs.declared.form.BlockMode.TheVariants.{Ecb, Cbc}

-- what a function makes of the blocks of all values
pub map-flat_map : {X Y : Type 0} (f : X → Y) (blocks : List ℕ → List X) (values : List (List ℕ))
    → map f (flat_map blocks values) ≡ flat_map (λ value. map f (blocks value)) values
map-flat_map f blocks [] = refl
map-flat_map f blocks (value ∷ values) =
    map-append f (blocks value) (flat_map blocks values) ∙ ap (λ l. map f (blocks value) ++ l) (map-flat_map f blocks values)

-- CBC goes on from the last block
xored-from : (f : List ℕ → List ℕ) (iv : List ℕ) (blocks more : List (List ℕ))
    → zip2 xor_blocks (map f (blocks ++ more)) (iv ∷ (blocks ++ more))
    ≡ zip2 xor_blocks (map f blocks) (iv ∷ blocks) ++ zip2 xor_blocks (map f more) (next_vector iv blocks ∷ more)
xored-from f iv [] more = refl
xored-from f iv (block ∷ blocks) more = ap (λ l. xor_blocks (f block) iv ∷ l) (xored-from f block blocks more)

pub xored-append : (f : List ℕ → List ℕ) (mode : BlockMode) (blocks more : List (List ℕ))
    → xored mode (blocks ++ more) (map f (blocks ++ more))
    ≡ xored mode blocks (map f blocks) ++ xored (mode_after mode blocks) more (map f more)
xored-append f Ecb blocks more = map-append f blocks more
xored-append f (Cbc iv) blocks more = xored-from f iv blocks more

pub mode_after-append : (mode : BlockMode) (blocks more : List (List ℕ))
    → mode_after (mode_after mode blocks) more ≡ mode_after mode (blocks ++ more)
mode_after-append Ecb blocks more = refl
mode_after-append (Cbc iv) blocks more = ap Cbc (sym (next_vector-append iv blocks more))

-- the chunks from one on, and those before one
pub drop-chunks : (k m total : ℕ) (bytes : List ℕ) → total ≡ k + m
    → drop k (first_chunks 8 total bytes) ≡ first_chunks 8 m (drop (k * 8) bytes)
drop-chunks zero m total bytes is = ap (λ n. first_chunks 8 n bytes) (omega (arith, is))
drop-chunks (suc k) m zero bytes is = absurd (omega (arith, is))
drop-chunks (suc k) m (suc total) bytes is =
    let next : 8 + k * 8 ≡ suc k * 8 = omega arith in
    drop-chunks k m total (drop 8 bytes) (omega (arith, is))
    ∙ ap (first_chunks 8 m) (drop-drop (k * 8) 8 bytes ∙ ap (λ n. drop n bytes) next)

pub take-chunks : (k m size : ℕ) (bytes : List ℕ) → k ≤ m → size ≡ k * 8
    → first_chunks 8 k (take size bytes) ≡ take k (first_chunks 8 m bytes)
take-chunks zero m size bytes within is = refl
take-chunks (suc k) zero size bytes within is = absurd (omega (arith, within))
take-chunks (suc k) (suc m) size bytes within is =
    let whole : size ≡ 8 + k * 8 = omega (arith, is) in
    ap₂ ◌∷◌ (take-take 8 size bytes (omega (arith, whole)))
    (ap (λ n. first_chunks 8 k (drop 8 (take n bytes))) whole
    ∙ ap (first_chunks 8 k) (drop-take 8 (k * 8) bytes)
    ∙ take-chunks k m (k * 8) (drop 8 bytes) (omega (arith, within)) refl)

-- the chunks of a part
pub chunks-at : (m count total size : ℕ) (bytes part : List ℕ) → m + count ≤ total → size ≡ count * 8
    → part ≡ take size (drop (m * 8) bytes) → length part ≡ size
    → first_chunks 8 (length part / 8) part ≡ take count (drop m (first_chunks 8 total bytes))
chunks-at m count total size bytes part within is of long =
    let number : length part / 8 ≡ count = omega (arith, long, is) in
    ap₂ (first_chunks 8) number of
    ∙ take-chunks count (total - m) size (drop (m * 8) bytes) (omega (arith, within)) is
    ∙ ap (take count) (sym (drop-chunks m (total - m) total bytes (omega (arith, within))))

-- lists that end alike from one place on do so from a later one
pub drop-further : (n m : ℕ) (xs ys : List ℕ) → m ≤ n → drop m xs ≡ drop m ys → drop n xs ≡ drop n ys
drop-further n m xs ys within same =
    let whole : m + (n - m) ≡ n = omega (arith, within) in
    ap (λ k. drop k xs) (sym whole) ∙ sym (drop-drop (n - m) m xs) ∙ ap (drop (n - m)) same ∙ drop-drop (n - m) m ys
    ∙ ap (λ k. drop k ys) whole
