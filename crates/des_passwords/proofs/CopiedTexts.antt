-- Copies of a text, one after another.
use Rattle.std.proofs.Common.{◌≡◌, refl, ap, sym, ◌∙◌, ℕ, zero, suc, ◌+◌, ◌-◌, ◌*◌, ◌/◌, ◌<◌, List, [], ◌∷◌, ◌++◌, length, take, drop, slice_index_or, arith}
use Rattle.std.proofs.lemmas.List.{take_all}
use Rattle.std.specs.List.{flat_map}
use Rattle.des_passwords.specs.Pkcs12.{big_endian, copies, in_blocks}

-- if nothing is left of a copy, the next begins
pub copies-restart : (text : List ℕ) (n : ℕ) → 0 < length text → copies text [] n ≡ copies text text n
unfolding copies
copies-restart text zero some = refl
copies-restart [] (suc n) some = absurd (omega (arith, some))
copies-restart (byte ∷ text) (suc n) some = refl

pub copies-none : (text rest : List ℕ) → copies text rest 0 ≡ []
unfolding copies
copies-none text rest = refl

pub copies-next : (text rest : List ℕ) (n : ℕ) → 0 < length rest
    → copies text rest (suc n) ≡ slice_index_or rest 0 0 ∷ copies text (take (length rest - 1) (drop 1 rest)) n
unfolding copies
copies-next text [] n some = absurd (omega (arith, some))
copies-next text (byte ∷ rest) n some =
    let all : take (length (byte ∷ rest) - 1) rest ≡ rest = take_all (length (byte ∷ rest) - 1) rest (omega arith) in
    ap (λ (l : List ℕ). byte ∷ copies text l n) (sym all)

pub length-copies : (text rest : List ℕ) (n : ℕ) → 0 < length text → length (copies text rest n) ≡ n
unfolding copies
length-copies text rest zero some = refl
length-copies text (byte ∷ rest) (suc n) some = omega (arith, length-copies text rest n some)
length-copies [] [] (suc n) some = absurd (omega (arith, some))
length-copies (byte ∷ text) [] (suc n) some = omega (arith, length-copies (byte ∷ text) text n some)

pub length-in_blocks : (text : List ℕ) → length (in_blocks text) ≡ 64 * ((length text + 63) / 64)
unfolding copies
length-in_blocks [] = refl
length-in_blocks (byte ∷ text) =
    length-copies (byte ∷ text) (byte ∷ text) (64 * ((length (byte ∷ text) + 63) / 64)) (omega arith)

-- ---- a block, unit by unit

pub length-big_endian : (units : List ℕ) → length (flat_map big_endian units) ≡ 2 * length units
length-big_endian [] = refl
length-big_endian (unit ∷ units) = omega (arith, length-big_endian units)

pub copies-big_endian : (text rest : List ℕ) (n : ℕ) → 0 < length text
    → copies (flat_map big_endian text) (flat_map big_endian rest) (2 * n) ≡ flat_map big_endian (copies text rest n)
unfolding copies
copies-big_endian text rest zero some = refl
copies-big_endian text (unit ∷ rest) (suc n) some =
    let count : 2 * suc n ≡ suc (suc (2 * n)) = omega arith in
    ap (copies (flat_map big_endian text) (flat_map big_endian (unit ∷ rest))) count
    ∙ ap (λ (l : List ℕ). big_endian unit ++ l) (copies-big_endian text rest n some)
copies-big_endian [] [] (suc n) some = absurd (omega (arith, some))
copies-big_endian (unit ∷ text) [] (suc n) some =
    let count : 2 * suc n ≡ suc (suc (2 * n)) = omega arith in
    ap (copies (flat_map big_endian (unit ∷ text)) []) count
    ∙ ap (λ (l : List ℕ). big_endian unit ++ l) (copies-big_endian (unit ∷ text) text n some)

pub units_done : (text start rest block : List ℕ) (i : ℕ) → 0 < length text → length block ≡ 64 → i ≡ 32
    → ((n : ℕ) → flat_map big_endian (copies text start (i + n))
    ≡ take (2 * i) block ++ flat_map big_endian (copies text rest n))
    → (n : ℕ) → copies (flat_map big_endian text) (flat_map big_endian start) (64 * suc n)
    ≡ block ++ copies (flat_map big_endian text) (flat_map big_endian rest) (64 * n)
units_done text start rest block i some size done all n =
    let more : 64 * suc n ≡ 2 * (i + 32 * n) = omega (arith, done) in
    let less : 64 * n ≡ 2 * (32 * n) = omega arith in
    let bytes = flat_map big_endian text in
    ap (copies bytes (flat_map big_endian start)) more
    ∙ copies-big_endian text start (i + 32 * n) some
    ∙ all (32 * n)
    ∙ ap (λ (l : List ℕ). l ++ flat_map big_endian (copies text rest (32 * n))) (take_all (2 * i) block (omega (arith, size, done)))
    ∙ ap (λ (l : List ℕ). block ++ l) (sym (ap (copies bytes (flat_map big_endian rest)) less ∙ copies-big_endian text rest (32 * n) some))
