-- A place more of each lane.
use Rattle.std.proofs.Common.{◌≡◌, ℕ, suc, ◌-◌, List, [], get_or, sym, ap, ◌∙◌, arith}
use Rattle.des_fast.proofs.ZippedParts.{zipped-at}
use Rattle.des_payment.specs.Dukpt.{transaction_key, derived, ones_below, counter_of, last_bytes}
use Rattle.des_payment.proofs.Derivations.{derived-end}
use Rattle.des_payment.proofs.CounterPlaces.{cleared, derived-place}
use Rattle.des_payment.proofs.transaction_lists.derive_group.Goals as goal

pub places-preserved : goal.places-preserved
places-preserved g c k below =
    let serial : List ℕ = get_or c.args.serials.now k [] in
    let key : List ℕ = get_or c.places.keys k [] in
    let n : ℕ = c.places.place - 1 in
    let place : suc n ≡ c.places.place = omega arith in
    let last : ℕ = last_bytes serial in
    ap (derived (ones_below n (counter_of serial)) (cleared last n)) (c.pass_place.ensures k below)
    ∙ derived-place last n key (omega arith)
    ∙ ap (λ (p : ℕ). derived (ones_below p (counter_of serial)) (cleared last p) key) place
    ∙ c.places.invariant k below

-- all places are done
pub returns : goal.returns
returns g c =
    zipped-at (λ serial key. transaction_key key serial) c.args.serials.now c.args.keys.now c.places.keys
    (omega (arith, c.requires.same)) (omega arith)
    (λ k inside.
    let serial : List ℕ = get_or c.args.serials.now k [] in
    sym (derived-end c.places.place (counter_of serial) (cleared (last_bytes serial) c.places.place)
    (get_or c.places.keys k []) (omega arith))
    ∙ c.places.invariant k (omega (arith, c.requires.same)))
