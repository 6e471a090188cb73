use Rattle.des_lines.specs.Faults.{line_start, shown_text}
use Rattle.des_lines.proofs.Prefixes.{AppendsPrefix-first, AppendsPrefix-second}
use Rattle.des_lines.proofs.report.write_parts.Goals as goal

-- a part of the name
pub returns-in_err-write_texts-clause-part : goal.returns-in_err-write_texts-clause-part
returns-in_err-write_texts-clause-part g c =
    AppendsPrefix-first _ _ (line_start c.args.name.now) _ (c.write_texts.ensures.part)

-- the name, and a part of what it is about
pub returns-in_err-write_shown-clause-part : goal.returns-in_err-write_shown-clause-part
returns-in_err-write_shown-clause-part g c =
    AppendsPrefix-second _ _ _ (line_start c.args.name.now) _ (c.in_ok-write_texts.ensures.whole)
    (AppendsPrefix-first _ _ (shown_text c.args.about.now) _ c.write_shown.ensures.part)

-- both, and a part of the words or all of them
pub returns-clause-part : goal.returns-clause-part
returns-clause-part g c =
    let separator = c.separator.ensures in
    AppendsPrefix-second _ _ _ (line_start c.args.name.now) _ (c.in_ok-write_texts.ensures.whole)
    (AppendsPrefix-second _ _ _ (shown_text c.args.about.now) _ c.in_ok-write_shown.ensures.whole
    (rw separator at c.write_texts-2.ensures.part))
