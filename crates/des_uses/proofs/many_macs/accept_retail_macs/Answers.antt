-- Two keys at a place, one after the other, are the key of the message there.
use Rattle.std.proofs.Common.{◌≡◌, ℕ, ◌<◌, ◌++◌, List, [], length, map, get_or, refl, ap, sym, ◌∙◌, arith}
use Rattle.std.specs.Simd.Lanes.{zip2}
use Rattle.std.proofs.lemmas.Simd.{length-zip2, get_or-zip2}
use Rattle.std.proofs.lemmas.List.{length-map}
use Rattle.des_mac.specs.Padding.{padded}
use Rattle.des_mac.specs.RetailMac.{retail_mac_of}
use Rattle.des_mac.specs.ManyMessages.{texts}
use Rattle.des_uses.proofs.ZippedLists.{get_or-zipped}
use Rattle.des_uses.proofs.many_macs.accept_retail_macs.Goals as goal

pub returns : goal.returns
returns g c k below =
    let bytes = g.C.Key.KeyBytes.bytes_of in
    let first : List (List ℕ) = map bytes c.args.first.now in
    let second : List (List ℕ) = map bytes c.args.second.now in
    let messages : List (List ℕ) = texts c.args.messages.now in
    let macs : List (List ℕ) = c.retail_macs_each_by.new.tags in
    let join : List ℕ → List ℕ → List ℕ = λ key more. key ++ more in
    let tag : List ℕ → List ℕ → List ℕ = λ key m.
    retail_mac_of g.C.KeySizeUser.KEY_SIZE g.C.KeyedCipher.encryption g.C.KeyedCipher.decryption key
    (padded g.P.Padding.padding_after m) in
    let same = c.in_ok-retail_macs_each_by.ensures.accepted.0 refl in
    let as_right = c.in_ok-verify_each.ensures.accepted.0 refl in
    let in_first : length first ≡ length c.args.macs.now = length-map c.args.first.now bytes ∙ same.0 in
    let in_second : length second ≡ length c.args.macs.now = length-map c.args.second.now bytes ∙ same.1 in
    let in_messages : length messages ≡ length c.args.macs.now =
    length-map c.args.messages.now (λ m. m.now) ∙ sym same.2 in
    let in_macs : length macs ≡ length c.args.macs.now = c.retail_macs_each_by.auto.tags in
    let inside : k < length c.args.macs.now = omega (arith, as_right.1) in
    let made : get_or macs k [] ≡ tag (get_or first k [] ++ get_or second k []) (get_or messages k []) =
    get_or-zipped tag (zip2 join first second) messages macs k
    (length-zip2 join first second (in_first ∙ sym in_second) ∙ in_first ∙ sym in_messages)
    c.in_ok-retail_macs_each_by.ensures.ok (omega arith)
    ∙ ap (λ (key : List ℕ). tag key (get_or messages k []))
    (get_or-zip2 join first second k [] [] [] (omega arith) (omega arith)) in
    let told = c.in_ok-verify_each.ensures.ok k below in
    (λ right. told.0 right ∙ made, λ is. told.1 (is ∙ sym made))
