-- The U of PBKDF2, their xor and the blocks, one more.
use Rattle.std.proofs.Common.{◌≡◌, ◌∙◌, refl, ap, sym, add-one, ℕ, suc, ◌+◌, ◌-◌, ◌≤◌, List, [], ◌++◌, bit_xor, arith}
use Rattle.std.specs.Simd.Lanes.{zip2}
use Rattle.des_passwords.specs.Pbkdf2.{u, xor_of, block, blocks}

pub u-first : (prf : List ℕ → List ℕ) (first : List ℕ) → u prf first 0 ≡ prf first
unfolding u
u-first prf first = refl

pub u-next : (prf : List ℕ → List ℕ) (first : List ℕ) (n : ℕ) → 1 ≤ n
    → u prf first (n + 1 - 1) ≡ prf (u prf first (n - 1))
unfolding u
u-next prf first n begun =
    let next : n + 1 - 1 ≡ suc (n - 1) = omega arith in
    ap (u prf first) next

pub xor_of-first : (prf : List ℕ → List ℕ) (first : List ℕ) → xor_of prf first 0 ≡ u prf first 0
unfolding xor_of
xor_of-first prf first = refl

pub xor_of-next : (prf : List ℕ → List ℕ) (first : List ℕ) (n : ℕ) → 1 ≤ n
    → xor_of prf first (n + 1 - 1) ≡ zip2 bit_xor (xor_of prf first (n - 1)) (u prf first (n + 1 - 1))
unfolding xor_of
xor_of-next prf first n begun =
    let next : n + 1 - 1 ≡ suc (n - 1) = omega arith in
    rw next refl

pub blocks-none : (prf : List ℕ → List ℕ) (salt : List ℕ) (iterations : ℕ) → blocks prf salt iterations 0 ≡ []
unfolding blocks
blocks-none prf salt iterations = refl

pub blocks-next : (prf : List ℕ → List ℕ) (salt : List ℕ) (iterations n : ℕ)
    → blocks prf salt iterations (n + 1) ≡ blocks prf salt iterations n ++ block prf salt iterations (n + 1)
unfolding blocks
blocks-next prf salt iterations n =
    ap (blocks prf salt iterations) (add-one n)
    ∙ sym (ap (λ m. blocks prf salt iterations n ++ block prf salt iterations m) (add-one n))
