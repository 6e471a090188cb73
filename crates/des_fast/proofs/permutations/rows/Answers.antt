use Rattle.std.proofs.Common.{◌≡◌, ℕ, suc, ◌+◌, ◌*◌, ◌/◌, ◌%◌, ◌^◌, ◌<◌, List, [], ◌∷◌, map, get_or, lit≤, refl, ap, ◌∙◌, arith}
use Rattle.std.specs.Int.{byte_at}
use Rattle.std.proofs.lemmas.Simd.{pick_l_whole}
use Rattle.des_fast.specs.declared.permutations.TheConstants.{EVERY_OTHER}
use Rattle.des_fast.proofs.PlacedBytes.{byte_at-is, shuffled, shuffled-byte}
use Rattle.des_fast.proofs.permutations.rows.Goals as goal

-- four numbers in a word
abbrev word : ℕ → ℕ → ℕ → ℕ → ℕ
word a b c d = ((d * 2 ^ 16 + c) * 2 ^ 16 + b) * 2 ^ 16 + a

-- a byte of a word of every other byte of two words, or of what is left of them without their last bytes
gathered-byte : (columns : List ℕ) (last first : ℕ) → ((k : ℕ) → k < 8 → get_or columns k 0 < 2 ^ 16)
    → let n : ℕ → ℕ = λ k. get_or columns k 0 in
    last ≡ word (n 0) (n 1) (n 2) (n 3) → first ≡ word (n 4) (n 5) (n 6) (n 7)
    → (b k : ℕ) → b < 2 → k < 8
    → byte_at k (get_or (shuffled 2 EVERY_OTHER (last ∷ first ∷ []) (last / 2 ^ 8 ∷ first / 2 ^ 8 ∷ [])) b 0)
    ≡ n k / 2 ^ (8 * b) % 2 ^ 8
gathered-byte columns last first short is_last is_first (suc (suc b)) k within below = absurd (omega arith)
gathered-byte columns last first short is_last is_first b (suc (suc (suc (suc (suc (suc (suc (suc k)))))))) within below =
    absurd (omega arith)
gathered-byte columns last first short is_last is_first b k within below =
    let p = short 0 (lit≤ tt) in
    let q = short 1 (lit≤ tt) in
    let r = short 2 (lit≤ tt) in
    let s = short 3 (lit≤ tt) in
    let t = short 4 (lit≤ tt) in
    let u = short 5 (lit≤ tt) in
    let v = short 6 (lit≤ tt) in
    let w = short 7 (lit≤ tt) in
    byte_at-is k _
    ∙ shuffled-byte 2 EVERY_OTHER (last ∷ first ∷ []) (last / 2 ^ 8 ∷ first / 2 ^ 8 ∷ []) (8 * b + k) b (2 * k)
    (refl, (record { fits = omega arith }, (record { fits = omega arith }, tt)))
    (refl, (record { fits = omega arith }, (record { fits = omega arith }, tt))) refl (lit≤ tt) (lit≤ tt) (lit≤ tt) refl
    ∙ omega arith

pub returns : goal.returns
returns c (suc (suc b)) within = absurd (omega arith)
returns c b within =
    let columns : List ℕ = c.args.columns in
    let at = gathered-byte columns c.joined-last.result c.joined-first.result c.requires
    (omega (arith, c.joined-last.ensures, c.joined-2.ensures, c.joined.ensures))
    (omega (arith, c.joined-first.ensures, c.joined-4.ensures, c.joined-3.ensures)) b in
    (λ j. at 0 within (lit≤ tt) j ∷ at 1 within (lit≤ tt) j ∷ at 2 within (lit≤ tt) j ∷ at 3 within (lit≤ tt) j
    ∷ at 4 within (lit≤ tt) j ∷ at 5 within (lit≤ tt) j ∷ at 6 within (lit≤ tt) j ∷ at 7 within (lit≤ tt) j ∷ [])
    ∙ ap (map (λ column. column / 2 ^ (8 * b) % 2 ^ 8)) (pick_l_whole 0 columns 8 (omega arith))
