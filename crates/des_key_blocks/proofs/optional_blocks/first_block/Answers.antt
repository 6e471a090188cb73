use Rattle.std.proofs.Common.{◌≡◌, ℕ, ◌+◌, ◌-◌, ◌≤◌, List, [], ◌∷◌, length, take, drop, get_or, Option, Some, refl, ap, ◌∙◌, subst, arith}
use Rattle.std.specs.Prelude.{unwrap_or}
use Rattle.std.proofs.lemmas.List.{length-append, drop-take}
use Rattle.des_key_blocks.specs.OptionalBlocks.{IsOptionalBlock}
use Rattle.des_key_blocks.proofs.optional_blocks.first_block.Goals as goal
use Rattle.des_key_blocks.proofs.optional_blocks.first_block.Goals.{then-size-front-via-then-size-front, then-size-front-via-else-size-front+then-text-size}

-- what was found is as long as the block, and has as much before the content
same-extent : (front size other total : ℕ) → ◌≡◌ {A = Option (ℕ × ℕ)} (Some (front, size)) (Some (other, total))
    → (front ≡ other) × (size ≡ total)
same-extent front size other total same = (
  ap (λ (found : Option (ℕ × ℕ)). (unwrap_or found (0, 0)).0) same,
  ap (λ (found : Option (ℕ × ℕ)). (unwrap_or found (0, 0)).1) same,
)

pub returns-then-size-front-clause-only : goal.returns-then-size-front-clause-only
returns-then-size-front-clause-only c = λ name content first rest block is.
    let extent = c.in_ok-front.ensures.only name content first rest block is in
    let same = same-extent c.in_ok-front.front c.in_ok-front.size extent.0 (length first) extent.1.1 in
    let within : length first ≤ length c.args.text.now = omega (arith, ap length is, length-append first rest) in
    let fronts = same.0 in
    let sizes = same.1 in
    let least = extent.1.0 in
    elim c.then-size-front.branch [
      | then-size-front-via-then-size-front w ↦ omega arith
      | then-size-front-via-else-size-front+then-text-size w ↦ omega arith
    ]

-- what stands before the size of a text, after its front
content-there : (front size : ℕ) (text : List ℕ) → front ≤ size
    → drop front (take size text) ≡ take (size - front) (drop front text)
content-there front size text within =
    let split : size ≡ front + (size - front) = omega arith in
    ap (λ n. drop front (take n text)) split ∙ drop-take front (size - front) text

-- two characters are the first two
name-there : (text : List ℕ) → 2 ≤ length text → take 2 text ≡ get_or text 0 0 ∷ get_or text 1 0 ∷ []
name-there (first ∷ second ∷ text) within = refl
name-there (first ∷ []) within = absurd (omega arith)
name-there [] within = absurd (omega arith)

pub returns-clause-first : goal.returns-clause-first
returns-clause-first c =
    let text : List ℕ = c.args.text.now in
    let front : ℕ = c.in_ok-front.front in
    let size : ℕ = c.in_ok-front.size in
    let block = c.in_ok-front.ensures.block (omega arith) (omega arith) in
    let least : 2 ≤ length text = omega (arith, c.in_ok-front.ensures.front) in
    let named = subst (λ name. IsOptionalBlock name (drop front (take size text)) (take size text))
    (name-there text least) block in
    subst (λ content. IsOptionalBlock (get_or text 0 0 ∷ get_or text 1 0 ∷ []) content (take size text))
    (content-there front size text (omega arith)) named

pub returns-clause-only : goal.returns-clause-only
returns-clause-only c = λ name content first rest block is.
    let extent = c.in_ok-front.ensures.only name content first rest block is in
    (same-extent c.in_ok-front.front c.in_ok-front.size extent.0 (length first) extent.1.1).1
