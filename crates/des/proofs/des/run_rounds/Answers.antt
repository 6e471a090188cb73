use Rattle.std.proofs.Common.{◌≡◌, ℕ, List, [], ◌∷◌, Bor, map, refl, ap, sym, ◌∙◌, rules}
use Rattle.std.proofs.lemmas.List.{map-append}
use Rattle.std.proofs.lemmas.Iterator.{YieldsList}
use Rattle.std.proofs.lemmas.Iterator.Consumers.{YieldsList-end}
use Rattle.des.specs.Bits.{bits_of_bytes}
use Rattle.des.specs.Blocks.{block_of_bits}
use Rattle.des.specs.Rounds.{after_rounds}
use Rattle.des.specs.RoundKeyWords.{round_keys_of}
use Rattle.des.specs.Laws.BlockBits.{block_of_bits-bits_of_bytes}
use Rattle.des.proofs.RoundsOnWords.{halves_of, halves_after, halves_of-round_more, through_rounds-halves}
use Rattle.des.proofs.des.run_rounds.Goals as goal

pub loop-round_key-init : goal.loop-round_key-init
unfolding after_rounds round_keys_of
loop-round_key-init g c = record { can = search rules; ends = search rules; rounds = refl }

pub loop-round_key-preserved : goal.loop-round_key-preserved
loop-round_key-preserved g c =
    let read : Bor ℕ → ℕ = λ word. word.now in
    let so_far : List ℕ = map read c.loop-round_key.yielded in
    let first : ℕ = c.first_halves-halves.result in
    record {
      can = search rules;
      ends = search rules;
      rounds =
          halves_of-round_more so_far first c.loop-round_key.halves c.in-Some.field-0.now c.round-halves.result
          c.loop-round_key.invariant.rounds c.round-halves.ensures
          ∙ ap (λ (words : List ℕ). halves_after words (halves_of first))
          (sym (map-append read c.loop-round_key.yielded (c.in-Some.field-0 ∷ [])));
    }

pub returns-clause-processed : goal.returns-clause-processed
returns-clause-processed g c words yields =
    let first : ℕ = c.first_halves-halves.result in
    let same : c.into_iter-round_key-iterator.result ≡ c.args.round_keys = search rules in
    let yielded : YieldsList g.I.Iterator.next_gives (λ word. word.now) c.into_iter-round_key-iterator.result words =
    record { runs = rw same yields } in
    let all =
    YieldsList-end yielded c.loop-round_key.yielded c.loop-round_key.round_key-iterator c.loop-round_key.yielded_by
    c.next.result c.next.new.self c.in-None.is c.next.ensures.steps in
    sym (block_of_bits-bits_of_bytes c.last_block.result c.last_block.ensures.block)
    ∙ ap block_of_bits
    (through_rounds-halves words first c.loop-round_key.halves (bits_of_bytes c.args.block.now)
    (bits_of_bytes c.last_block.result) c.first_halves-halves.ensures
    (c.loop-round_key.invariant.rounds ∙ ap (λ (ws : List ℕ). halves_after ws (halves_of first)) all.0)
    c.last_block.ensures.bits)
