use Rattle.std.proofs.Common.{ℕ, ◌-◌, ◌/◌, ◌%◌, get_or, sym, ◌∙◌, arith}
use Rattle.des_fast.proofs.WordPlaces.{bit_of_words-at}
use Rattle.des_fast.proofs.KeySlices.{bit_in-shifted}
use Rattle.des_fast.proofs.slices.keys.bit_slice.Goals as goal

pub returns : goal.returns
returns g c b within =
    let place : ℕ = c.args.position - 1 in
    c.same.ensures b within
    ∙ sym (bit_of_words-at c.args.words.now place
    ∙ bit_in-shifted (get_or c.args.words.now (place / 64) 0) (place % 64) (omega arith))
