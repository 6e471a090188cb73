use Rattle.std.proofs.Common.{◌≡◌, ℕ, List, [], ◌∷◌, ◌++◌, codes, Result, Ok, Err, OnOk, append_assoc, ap, ◌∙◌}
use Rattle.des_key_blocks.specs.KeyBlockHeaders.{version_text, usage_text, algorithm_text, mode_text, exportability_text}
use Rattle.des_lines.specs.declared.fault.FaultKind.{FaultKind}
use Rattle.des_lines.specs.KeyBlockLines.{field_line}
use Rattle.des_lines.proofs.key_block_lines.add_header.Goals as goal

-- what a call added last, after what was added before
joined : (start a b c d e f before after : List ℕ) (result : Result (Unit {0}) FaultKind)
    → before ≡ start ++ (a ++ (b ++ (c ++ (d ++ e)))) → OnOk result (after ≡ before ++ f)
    → OnOk result (after ≡ start ++ (a ++ (b ++ (c ++ (d ++ (e ++ f))))))
joined start a b c d e f before after (Ok done) so_far added =
    added ∙ ap (λ (lines : List ℕ). lines ++ f) so_far ∙ simp append_assoc
joined start a b c d e f before after (Err kind) so_far added = tt

-- five texts, one after another
five : (start a b c d e l1 l2 l3 l4 l5 : List ℕ) → l1 ≡ start ++ a → l2 ≡ l1 ++ b → l3 ≡ l2 ++ c → l4 ≡ l3 ++ d
    → l5 ≡ l4 ++ e → l5 ≡ start ++ (a ++ (b ++ (c ++ (d ++ e))))
five start a b c d e l1 l2 l3 l4 l5 p1 p2 p3 p4 p5 = rw (p5, p4, p3, p2, p1) (simp append_assoc)

pub returns-clause-lines : goal.returns-clause-lines
returns-clause-lines c =
    let start = c.args.lines.now.items in
    let header = c.args.header.now in
    let version = field_line (codes "version") (version_text header.version ∷ []) in
    let usage = field_line (codes "usage") (usage_text header.usage) in
    let algorithm = field_line (codes "algorithm") (algorithm_text header.algorithm ∷ []) in
    let mode = field_line (codes "mode") (mode_text header.mode ∷ []) in
    let key_version = field_line (codes "key-version") header.key_version in
    let rule = field_line (codes "exportability") (exportability_text header.exportability ∷ []) in
    joined start version usage algorithm mode key_version rule c.add_field-5.new.lines.items
    c.add_field-6.new.lines.items c.add_field-6.result
    (five start version usage algorithm mode key_version _ _ _ _ _
    (rw c.character.ensures at c.in_ok-add_field.ensures.line)
    (rw c.text.ensures at c.in_ok-add_field-2.ensures.line)
    (rw c.character-2.ensures at c.in_ok-add_field-3.ensures.line)
    (rw c.character-3.ensures at c.in_ok-add_field-4.ensures.line)
    c.in_ok-add_field-5.ensures.line)
    (rw c.character-4.ensures at c.add_field-6.ensures.line)
