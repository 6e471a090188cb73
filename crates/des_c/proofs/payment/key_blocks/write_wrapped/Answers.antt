use Rattle.std.proofs.Common.{◌≡◌, ℕ, ◌+◌, ◌≤◌, List, ◌++◌, length, take, drop, set, sym, ap, ◌∙◌, arith, drop-drop}
use Rattle.std.proofs.Common.{drop-set-lt, take-append-drop}
use Rattle.std.proofs.lemmas.List.{drop-append-le}
use Rattle.des_c.proofs.payment.key_blocks.write_wrapped.Goals as goal

-- what stands behind the byte after a text that was written to the front of some capacity
behind : (buffer text : List ℕ) (capacity size : ℕ) → size ≤ length text → length text ≡ length (take capacity buffer)
    → drop size text ≡ drop size (take capacity buffer)
    → drop (size + 1) (set (text ++ drop capacity buffer) size 0) ≡ drop (size + 1) buffer
behind buffer text capacity size fits long rest =
    let back : List ℕ = drop capacity buffer in
    let same : drop size (text ++ back) ≡ drop size buffer =
    drop-append-le size text back fits
    ∙ ap (λ (t : List ℕ). t ++ back) rest
    ∙ sym (drop-append-le size (take capacity buffer) back (omega (arith, long)))
    ∙ ap (drop size) (take-append-drop capacity buffer) in
    drop-set-lt (size + 1) (text ++ back) size 0 (omega arith)
    ∙ sym (drop-drop 1 size (text ++ back)) ∙ ap (drop 1) same ∙ drop-drop 1 size buffer

pub returns-in-Ok-clause-rest : goal.returns-in-Ok-clause-rest
returns-in-Ok-clause-rest c = λ done.
    behind c.args.block.now c.wrap.new.text c.saturating_sub-capacity.result c.in-Ok.size c.in-Ok.ensures.within
    c.wrap.auto.text c.in-Ok.ensures.rest
