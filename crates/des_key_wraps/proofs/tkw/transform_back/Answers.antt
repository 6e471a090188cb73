-- A step more.
use Rattle.std.proofs.Common.{◌≡◌, ℕ, ◌+◌, ◌*◌, ◌-◌, ◌%◌, ◌<◌, List, [], ◌∷◌, length, set, get_or, refl, ap, sym, ◌∙◌, arith, length-append}
use Rattle.std.proofs.Math.Nat.{mod-lt, mul-mod_left, zero-mod}
use Rattle.std.proofs.lemmas.List.{get_or-set_same, length-set, set-get_or, set-set}
use Rattle.des_key_wraps.specs.Tkw.{tw_step, tw_steps}
use Rattle.des_key_wraps.proofs.TkwSteps.{Undoes, tw_steps-alike, tw_steps-next, tw_steps-keep, tw_step-in_place, tw_step-one, turned, turned-none}
use Rattle.des_key_wraps.proofs.tkw.transform_back.Given.{Over}
use Rattle.des_key_wraps.proofs.tkw.transform_back.Goals as goal

laws : (g : Over) (cipher : g.row.C.Denot) → Undoes (g.C.BlockCipherEncrypt.encrypted cipher) (g.C.BlockCipherDecrypt.decrypted cipher)
laws g cipher =
    record { undone = g.met.C.BlockCipher.decrypts_encrypted cipher; is_block = g.met.C.BlockCipher.encrypted_is_block cipher }

pub steps-init : goal.steps-init
steps-init g c =
    let words : List (List ℕ) = c.args.words.now in
    let count : ℕ = length words in
    let whole = turned-none words (6 * count % count) (mul-mod_left 6 count) in
    record { within = omega arith; undone = λ start same. rw whole at same; only = λ start are same. rw whole same }

pub steps-preserved : goal.steps-preserved
steps-preserved g c =
    let E : List ℕ → List ℕ = g.C.BlockCipherEncrypt.encrypted c.args.cipher.now in
    let count : ℕ = length c.args.words.now in
    let t : ℕ = c.steps.left - 1 in
    let i : ℕ = t % count in
    let words : List (List ℕ) = c.steps.words in
    let first : List ℕ = c.step_back.new.first in
    let word : List ℕ = c.step_back.new.word in
    let within : i < length words = omega (arith, mod-lt t c.requires.some) in
    let place : t + 1 ≡ c.steps.left = omega arith in
    let there : get_or (set words i word) i [] ≡ word = get_or-set_same words i word [] within in
    let back : set (set words i word) i (get_or words i []) ≡ words =
    set-set words i word (get_or words i []) ∙ set-get_or words i [] in
    let step : tw_step E (t + 1) (first ∷ turned (set words i word) i) ≡ c.steps.first ∷ turned words ((t + 1) % count) =
    rw back at (tw_step-in_place E t count first c.steps.first word (get_or words i []) (set words i word)
    (omega (arith, length-set words i word)) c.requires.some there c.step_back.ensures.first c.step_back.ensures.word) in
    let undone = rw (← place) at c.steps.invariant.undone in
    let only = rw (← place) at c.steps.invariant.only in record {
      within = omega (arith, c.steps.invariant.within);
      undone = λ start same. undone start (rw (tw_steps-next E t start, same) step);
      only = λ start are same.
          tw_step-one (laws g c.args.cipher.now) (t + 1) (count + 1) i (tw_steps E t start) (set words i word) first word
          (tw_steps-keep (laws g c.args.cipher.now) t (count + 1) start are) (omega (arith, c.requires.some))
          (omega (arith, length-set words i word)) there (omega arith)
          (omega (arith, c.step_back.ensures.block.0, length-append first word)) c.step_back.ensures.block
          (rw (← tw_steps-next E t start, step) (only start are same));
    }

pub returns : goal.returns
returns g c =
    let E : List ℕ → List ℕ = g.C.BlockCipherEncrypt.encrypted c.args.cipher.now in
    let words : List (List ℕ) = c.steps.words in
    let count : ℕ = length c.args.words.now in
    let none : c.steps.left ≡ 0 = omega arith in
    let all : 6 * (length (c.steps.first ∷ words) - 1) ≡ 6 * count = omega arith in
    let whole = turned-none words (0 % count) (zero-mod count) in
    let undone = rw (none, whole) at c.steps.invariant.undone in
    let only = rw (none, whole) at c.steps.invariant.only in record {
      undone = rw all (undone (c.steps.first ∷ words) refl);
      only = λ start are under.
          let count_of : ℕ = 6 * (length start - 1) in
          let made =
          sym (tw_steps-alike (laws g c.args.cipher.now) (λ block is. sym (under.encrypts block is).1) count_of start are)
          ∙ under.made in
          let kept = tw_steps-keep (laws g c.args.cipher.now) count_of (length start) start (refl, are) in
          let size : length start ≡ count + 1 = omega (arith, kept.0, ap length made) in
          let steps : 6 * count ≡ count_of = omega (arith, size) in
          only start (size, are) (rw steps made);
    }
