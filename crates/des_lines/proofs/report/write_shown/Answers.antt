use Rattle.std.proofs.Common.{◌≡◌, ◌∙◌, ℕ, [], List, length, take, ap, sym, subst, arith}
use Rattle.std.proofs.lemmas.Iterator.{YieldsList-from_chars}
use Rattle.std.proofs.lemmas.Iterator.Consumers.{YieldsList-turn, YieldsList-end}
use Rattle.std.proofs.lemmas.List.{take_all, take_more, flat_map_more, length_push}
use Rattle.std.proofs.KnownBytes.{Appends-trans}
use Rattle.std.specs.Char.{encode_utf8}
use Rattle.std.specs.Io.KnownBytes.{Appends}
use Rattle.std.specs.List.{flat_map}
use Rattle.std.specs.Str.{chars}
use Rattle.des_lines.specs.Faults.{shown_character}
use Rattle.des_lines.specs.Written.{AppendsPrefix}
use Rattle.des_lines.proofs.Prefixes.{AppendsPrefix-first, AppendsPrefix-second, AppendsPrefix-all, AppendsPrefix-written, OnOk-written, flat_map-at}
use Rattle.des_lines.proofs.report.write_shown.Goals as goal

abbrev as_shown : ℕ → List ℕ
as_shown character = encode_utf8 (shown_character character)

-- the characters before the one that could not be written whole, and a part of it
pub returns-in_err-write_whole-clause-part : goal.returns-in_err-write_whole-clause-part
returns-in_err-write_whole-clause-part g c =
    let text = chars c.args.text.now in
    let i : ℕ = length c.loop-character.yielded in
    let turn = YieldsList-turn (YieldsList-from_chars c.args.text.now c.utf8.text cc) c.loop-character.yielded _
    c.loop-character.yielded_by _ _ c.in-Some.character c.in-Some.is c.next.ensures.steps in
    let is = c.as_bytes.ensures.value ∙ c.encode_utf8.ensures.value ∙ ap encode_utf8 c.shown.ensures in
    let part = subst (AppendsPrefix _ _) is (AppendsPrefix-written _ _ _ _ c.write_whole.ensures.written) in
    subst (AppendsPrefix _ _) (sym (flat_map-at as_shown text i c.in-Some.character turn.0))
    (AppendsPrefix-second _ _ _ (flat_map as_shown (take i text)) _ c.loop-character.invariant
    (AppendsPrefix-first _ _ _ _ (rw turn.1 at part)))

-- a character more
pub loop-character-preserved : goal.loop-character-preserved
loop-character-preserved g c =
    let text = chars c.args.text.now in
    let i : ℕ = length c.loop-character.yielded in
    let turn = YieldsList-turn (YieldsList-from_chars c.args.text.now c.utf8.text cc) c.loop-character.yielded _
    c.loop-character.yielded_by _ _ c.in-Some.character c.in-Some.is c.next.ensures.steps in
    let is = c.as_bytes.ensures.value ∙ c.encode_utf8.ensures.value ∙ ap encode_utf8 c.shown.ensures in
    let whole = rw c.in_ok-write_whole.was at (OnOk-written c.write_whole.result _ _ _ c.write_whole.ensures.written) in
    rw (length_push c.loop-character.yielded c.in-Some.character, take_more text i c.in-Some.character turn.0, ← turn.1)
    (subst (Appends _ _) (flat_map_more as_shown [] (take i text) c.in-Some.character)
    (Appends-trans _ _ _ _ _ c.loop-character.invariant (subst (Appends _ _) is whole)))

-- all characters
pub returns-clause-whole : goal.returns-clause-whole
returns-clause-whole g c =
    let text = chars c.args.text.now in
    let end = YieldsList-end (YieldsList-from_chars c.args.text.now c.utf8.text cc) c.loop-character.yielded _
    c.loop-character.yielded_by _ _ c.in-None.is c.next.ensures.steps in
    let all : take (length c.loop-character.yielded) text ≡ text = take_all _ text (omega (arith, end.1)) in
    rw all at c.loop-character.invariant

pub returns-clause-part : goal.returns-clause-part
returns-clause-part g c =
    let text = chars c.args.text.now in
    let end = YieldsList-end (YieldsList-from_chars c.args.text.now c.utf8.text cc) c.loop-character.yielded _
    c.loop-character.yielded_by _ _ c.in-None.is c.next.ensures.steps in
    let all : take (length c.loop-character.yielded) text ≡ text = take_all _ text (omega (arith, end.1)) in
    AppendsPrefix-all _ _ _ (rw all at c.loop-character.invariant)
