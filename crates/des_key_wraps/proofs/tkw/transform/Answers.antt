-- A step more.
use Rattle.std.proofs.Common.{◌≡◌, ℕ, ◌*◌, ◌-◌, ◌%◌, List, [], ◌∷◌, length, get_or, refl, arith}
use Rattle.std.proofs.Math.Nat.{mul-mod_left}
use Rattle.des_key_wraps.proofs.TkwSteps.{tw_steps-next, tw_step-in_place, turned-none}
use Rattle.des_key_wraps.proofs.tkw.transform.Goals as goal

pub steps-preserved : goal.steps-preserved
steps-preserved g c =
    let E : List ℕ → List ℕ = g.C.BlockCipherEncrypt.encrypted c.args.cipher.now in
    let t : ℕ = c.steps.t in
    let count : ℕ = length c.args.words.now in
    rw (tw_steps-next E t (c.args.first.now ∷ c.args.words.now), c.steps.invariant)
    (tw_step-in_place E t count c.steps.first c.step.new.first (get_or c.steps.words (t % count) []) c.step.new.word c.steps.words
    (omega arith) c.requires.some refl c.step.ensures.first c.step.ensures.word)

pub returns : goal.returns
returns g c =
    let start : List (List ℕ) = c.args.first.now ∷ c.args.words.now in
    let count : ℕ = length c.args.words.now in
    let all : 6 * (length start - 1) ≡ c.steps.t = omega arith in
    let is : c.steps.t ≡ 6 * count = omega arith in
    let none : c.steps.t % count ≡ 0 = rw is (mul-mod_left 6 count) in
    rw (all, c.steps.invariant, turned-none c.steps.words (c.steps.t % count) none) refl
