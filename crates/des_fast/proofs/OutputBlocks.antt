-- The output blocks of a feedback, one more.
use Rattle.std.proofs.Common.{rules, ◌≡◌, ℕ, zero, suc, ◌+◌, ◌<◌, ◌≤◌, List, [], ◌∷◌, length, get_or, set, replicate, refl, ap, ap₂, sym, ◌∙◌, arith}
use Rattle.std.proofs.lemmas.List.{get_or_default, get_or_past, get_or-set_same}
use Rattle.std.specs.Int.Bits.{xor_zero_l}
use Rattle.des.specs.Cbc.{xor_blocks}
use Rattle.des_fast.specs.ChainingValues.{register_before}

pub xor_blocks-zeros : (n : ℕ) (block : List ℕ) → length block ≡ n → xor_blocks (replicate n 0) block ≡ block
unfolding xor_blocks
xor_blocks-zeros zero [] same = refl
xor_blocks-zeros zero (byte ∷ bytes) same = absurd (omega arith)
xor_blocks-zeros (suc n) [] same = absurd (omega arith)
xor_blocks-zeros (suc n) (byte ∷ bytes) same = ap₂ ◌∷◌ (xor_zero_l byte) (xor_blocks-zeros n bytes (omega arith))

-- what the register holds does not change with the outputs from there on
pub register_before-set : (iv answer : List ℕ) (p o : List (List ℕ)) (j n : ℕ) → n < j + 1
    → register_before iv p (set o j answer) n ≡ register_before iv p o n
register_before-set iv answer p o j zero below = refl
register_before-set iv answer p o j (suc n) below =
    ap (xor_blocks (get_or p n (replicate 8 0))) (search rules)

pub outputs-next : (f : List ℕ → List ℕ) (iv answer : List ℕ) (p o : List (List ℕ)) (j : ℕ) → j < length o
    → answer ≡ f (register_before iv p o j)
    → ((n : ℕ) → n < j → get_or o n [] ≡ f (register_before iv p o n))
    → (n : ℕ) → n < j + 1 → get_or (set o j answer) n [] ≡ f (register_before iv p (set o j answer) n)
outputs-next f iv answer p o j within made before n below =
    rw (register_before-set iv answer p o j n below) (search rules)

-- what the register holds after an output block, by the plaintext that is there
pub register-next : (iv answer block : List ℕ) (p o : List (List ℕ)) (j : ℕ) → j < length o → j < length p → block ≡ get_or p j []
    → register_before iv p (set o j answer) (j + 1) ≡ xor_blocks block answer
register-next iv answer block p o j within inside is =
    let place : j + 1 ≡ suc j = omega arith in
    rw place (ap₂ xor_blocks (get_or_default p j _ [] inside ∙ sym is) (get_or-set_same o j answer [] within))

pub register-behind : (iv answer : List ℕ) (p o : List (List ℕ)) (j : ℕ) → j < length o → length p ≤ j → length answer ≡ 8
    → register_before iv p (set o j answer) (j + 1) ≡ answer
register-behind iv answer p o j within behind wide =
    let place : j + 1 ≡ suc j = omega arith in
    rw place (ap₂ xor_blocks (get_or_past p j _ behind) (get_or-set_same o j answer [] within)
    ∙ xor_blocks-zeros 8 answer wide)
