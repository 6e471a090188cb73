use Rattle.std.proofs.Common.{◌≡◌, ◌≢◌, ℕ, ◌+◌, ◌-◌, List, [], ◌∷◌, ◌++◌, length, take, drop, Some, refl, sym, ap, ◌∙◌, subst, append_assoc, arith}
use Rattle.std.proofs.lemmas.List.{length-append, drop_at, take_rest}
use Rattle.des_key_blocks.specs.OptionalBlocks.{AreOptionalBlocks}
use Rattle.des_key_blocks.proofs.OptionalBlockLists.{FirstBlock, first-of, none-empty, block-before}
use Rattle.des_key_blocks.proofs.optional_blocks.+size_of_blocks.Goals as goal

pub returns-then-count-eq0-clause-all : goal.returns-then-count-eq0-clause-all
unfolding AreOptionalBlocks
returns-then-count-eq0-clause-all t c = ([], (omega arith, refl))

pub returns-then-count-eq0-clause-only : goal.returns-then-count-eq0-clause-only
returns-then-count-eq0-clause-only t c = λ blocks optional rest count are is.
    ap (λ (text : List ℕ). Some (length text)) (sym (none-empty blocks optional (omega arith) are))

-- the first block and what comes after it, in a text that begins with blocks
there : (blocks : List (List ℕ × List ℕ)) (optional rest text : List ℕ) (f : FirstBlock blocks optional)
    → text ≡ optional ++ rest → text ≡ f.first ++ (f.back ++ rest)
there blocks optional rest text f is =
    is ∙ ap (λ (front : List ℕ). front ++ rest) f.is ∙ append_assoc f.first f.back rest

after : (size : ℕ) (first back text : List ℕ) → size ≡ length first → text ≡ first ++ back
    → take (length text - size) (drop size text) ≡ back
after size first back text is there =
    take_rest text size ∙ ap (drop size) there ∙ drop_at first back size (sym is)

pub returns-in_err-first-clause-only : goal.returns-in_err-first-clause-only
returns-in_err-first-clause-only t c = λ blocks optional rest count are is.
    let some : length blocks ≢ 0 = omega arith in
    let f = first-of blocks optional some are in
    absurd (c.in_err-first.ensures.only f.name f.content f.first (f.back ++ rest) f.block
    (there blocks optional rest c.args.text.now f is))

pub returns-in_err-rest-clause-only : goal.returns-in_err-rest-clause-only
returns-in_err-rest-clause-only t c = λ blocks optional rest count are is.
    let some : length blocks ≢ 0 = omega arith in
    let f = first-of blocks optional some are in
    let text : List ℕ = c.args.text.now in
    let begun = there blocks optional rest text f is in
    let first = c.in_ok-first.ensures.only f.name f.content f.first (f.back ++ rest) f.block begun in
    let left : length f.others ≡ c.args.count - 1 = omega (arith, f.count) in
    let none = c.in_err-rest.ensures.only f.others f.back rest left f.are
    (after c.in_ok-first.first f.first (f.back ++ rest) text first begun) in
    absurd (cc none)

pub returns-clause-all : goal.returns-clause-all
returns-clause-all t c =
    let others = c.in_ok-rest.ensures.all in
    let name : List ℕ = c.in_ok-first.field-0-0.name in
    let content : List ℕ = c.in_ok-first.field-0-0.content.now in (
      (name, content) ∷ others.0,
      (
        omega (arith, others.1.0),
        block-before c.in_ok-first.first c.in_ok-rest.rest name content c.args.text.now others.0
            c.in_ok-first.ensures.first
            (subst (λ (rest : List ℕ). AreOptionalBlocks others.0 (take c.in_ok-rest.rest rest))
            (take_rest c.args.text.now c.in_ok-first.first) others.1.1),
      ),
    )

pub returns-clause-only : goal.returns-clause-only
returns-clause-only t c = λ blocks optional rest count are is.
    let some : length blocks ≢ 0 = omega arith in
    let f = first-of blocks optional some are in
    let text : List ℕ = c.args.text.now in
    let begun = there blocks optional rest text f is in
    let first = c.in_ok-first.ensures.only f.name f.content f.first (f.back ++ rest) f.block begun in
    let left : length f.others ≡ c.args.count - 1 = omega (arith, f.count) in
    let same = c.in_ok-rest.ensures.only f.others f.back rest left f.are
    (after c.in_ok-first.first f.first (f.back ++ rest) text first begun) in
    let others : c.in_ok-rest.rest ≡ length f.back = cc same in
    let whole : c.in_ok-first.first + c.in_ok-rest.rest ≡ length optional =
    omega (arith, ap length f.is, length-append f.first f.back) in
    ap (λ n. Some n) whole
