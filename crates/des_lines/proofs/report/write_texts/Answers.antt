use Rattle.std.proofs.Common.{rules, ◌≡◌, ℕ, ◌<◌, length, List, take, Bor, [], sym, subst, arith}
use Rattle.std.specs.List.{flat_map}
use Rattle.std.proofs.lemmas.List.{take_all}
use Rattle.des_lines.specs.Written.{AppendsPrefix}
use Rattle.des_lines.proofs.Prefixes.{AppendsPrefix-first, AppendsPrefix-second, AppendsPrefix-all, AppendsPrefix-written, flat_map-at}
use Rattle.des_lines.proofs.report.write_texts.Goals as goal

-- what stands in the place of a text that is not there
abbrev no_text : Bor (List ℕ)
no_text = record { ref_ptr = (0, 0); now = [] }

-- the texts before the one that could not be written whole, and a part of it
pub returns-in_err-write_whole-clause-part : goal.returns-in_err-write_whole-clause-part
returns-in_err-write_whole-clause-part g c =
    let texts = c.args.texts.now in
    let i : ℕ = c.loop-text.text-index in
    let within : i < length texts = search rules in
    let text = c.as_bytes.ensures.value in
    subst (AppendsPrefix _ _) (sym (flat_map-at (λ x. x.now) texts i no_text within))
    (AppendsPrefix-second _ _ _ (flat_map (λ x. x.now) (take i texts)) _ c.loop-text.invariant.written
    (AppendsPrefix-first _ _ _ _ (rw text at (AppendsPrefix-written _ _ _ _ c.write_whole.ensures.written))))

-- all texts
pub returns-clause-part : goal.returns-clause-part
returns-clause-part g c =
    let texts = c.args.texts.now in
    let i : ℕ = c.loop-text.text-index in
    let all : take i texts ≡ texts = take_all i texts (omega (arith, c.loop-text-test.false)) in
    AppendsPrefix-all _ _ _ (rw all at c.loop-text.invariant.written)
