use Rattle.std.proofs.Common.{List, ℕ, get_or, refl, ap, ◌∙◌, arith}
use Rattle.std.proofs.lemmas.List.{take_more}
use Rattle.des_key_blocks.specs.Hex.{hex_number}
use Rattle.des_key_blocks.proofs.HexNumbers.{hex_number-at, hex_number-more, within-more}
use Rattle.des_key_blocks.proofs.hex.hex_number.Goals as goal

pub loop-character-init : goal.loop-character-init
unfolding hex_number
loop-character-init c = record { within = omega arith; some = refl }

-- a number has a digit in each place
pub returns-in-None-clause-none : goal.returns-in-None-clause-none
returns-in-None-clause-none c = λ number same.
    let place : ℕ = c.loop-character.character-index in
    let digit = hex_number-at _ number place c.loop-character-test.true in
    c.in-None.ensures.none digit.0 digit.1 (digit.2 ∙ ap (λ (text : List ℕ). get_or text place 0) same)

pub loop-character-preserved : goal.loop-character-preserved
loop-character-preserved c =
    let place : ℕ = c.loop-character.character-index in
    record {
      within = within-more place c.loop-character.number c.in-Some.digit c.loop-character.invariant.within
          c.in-Some.ensures.some.0;
      some = let more = take_more c.args.text.now place 0 c.loop-character-test.true in
          let digits = hex_number-more place c.loop-character.number c.in-Some.digit c.in-Some.ensures.some.0 in
          cc (c.loop-character.invariant.some, c.in-Some.ensures.some.1);
    }
