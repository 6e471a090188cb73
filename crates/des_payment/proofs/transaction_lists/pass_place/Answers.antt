use Rattle.std.proofs.Common.{ℕ, ◌<◌, List, [], ◌++◌, ◌*◌, ◌/◌, ◌^◌, ◌==◌, if◌then◌else◌, length, get_or, ap, ap₂, ◌∙◌, arith}
use Rattle.std.specs.Int.{bit_at}
use Rattle.std.proofs.lemmas.List.{get_or-take}
use Rattle.des_payment.specs.Dukpt.{next_half, next_key, counter_of, last_bytes}
use Rattle.des_payment.proofs.transaction_lists.pass_place.Goals as goal

-- the next key is of the halves that the masked key and the key make
pub returns : goal.returns
unfolding next_key
returns g c k below =
    let keys : List (List ℕ) = c.args.keys.now in
    let serial : List ℕ = get_or c.args.serials.now k [] in
    let inside : k < length keys = omega (arith, c.requires.same) in
    let register : ℕ = last_bytes serial / 2 ^ c.args.place * 2 ^ c.args.place in
    ap (λ (xs : List (List ℕ)). get_or xs k []) c.copy_from_slice.ensures.after
    ∙ get_or-take (length keys) c.keys_after-after.result k [] inside
    ∙ c.keys_after-after.ensures k below
    ∙ ap (λ (next : List ℕ). if bit_at (counter_of serial) c.args.place == 1 then next else get_or keys k [])
    (ap₂ ◌++◌
    (c.next_halves-left.ensures k below
    ∙ ap (next_half register) (get_or-take (length keys) c.masked_keys.result k [] inside ∙ c.masked_keys.ensures k inside))
    (c.next_halves-right.ensures k below))
