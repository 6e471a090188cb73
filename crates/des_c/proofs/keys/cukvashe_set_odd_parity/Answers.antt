use Rattle.std.proofs.Common.{◌≡◌, ℕ, List, length, map, slice_index, ap, ◌∙◌, arith}
use Rattle.std.proofs.lemmas.List.{length-map, get_or-map}
use Rattle.des.specs.Laws.BlockBits.{slice_index-lt}
use Rattle.des.proofs.ParityBits.{IsTheOne-odd_parity}
use Rattle.des_payment.specs.Components.{odd}
use Rattle.des_payment.proofs.OddBytes.{odd-parts}
use Rattle.des_c.proofs.keys.cukvashe_set_odd_parity.Goals as goal

pub returns-clause-one : goal.returns-clause-one
returns-clause-one c = λ eight.
    let key : List ℕ = c.args.key.now in
    let same : c.set_odd_parity.new.key ≡ map odd key = c.set_odd_parity.ensures in
    IsTheOne-odd_parity key c.set_odd_parity.new.key eight (slice_index-lt key c.are_bytes.ensures)
    (ap length same ∙ length-map key odd ∙ eight)
    (λ i below.
    let here : slice_index c.set_odd_parity.new.key i ≡ odd (slice_index key i) =
    ap (λ l. slice_index l i) same ∙ get_or-map odd key i 0 0 (omega (arith, eight, below)) in
    rw here (odd-parts (slice_index key i)))
