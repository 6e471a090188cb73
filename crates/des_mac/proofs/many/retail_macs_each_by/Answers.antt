use Rattle.std.proofs.Common.{refl, subst, OnOk, ◌≡◌, ℕ, List, length, map, ap, sym, ◌∙◌, arith}
use Rattle.std.specs.Simd.Lanes.{zip2}
use Rattle.std.proofs.lemmas.List.{length-map}
use Rattle.des_mac.specs.Padding.{padded}
use Rattle.des_mac.specs.ManyMessages.{texts}
use Rattle.des_mac.proofs.ManyChains.{retail_macs-zipped}
use Rattle.des_mac.proofs.many.retail_macs_each_by.Goals as goal

pub returns-clause-ok : goal.returns-clause-ok
returns-clause-ok g c =
    let bytes = g.C.Key.KeyBytes.bytes_of in
    let first : List (List ℕ) = map bytes c.args.first.now in
    let second : List (List ℕ) = map bytes c.args.second.now in
    let messages : List (List ℕ) = texts c.args.messages.now in
    let encryption : List ℕ → List ℕ → List ℕ = g.C.KeyedCipher.encryption in
    let decryption : List ℕ → List ℕ → List ℕ = g.C.KeyedCipher.decryption in
    let same = c.in_ok-cbc_macs_each_by.ensures.accepted.0 refl in
    let in_first : length first ≡ length c.args.first.now = length-map c.args.first.now bytes in
    let as_second : length second ≡ length first =
    length-map c.args.second.now bytes ∙ c.if-second-tags.false ∙ sym (in_first ∙ same.0) in
    let as_texts : length messages ≡ length first =
    length-map c.args.messages.now (λ m. m.now) ∙ sym (in_first ∙ same.0 ∙ same.1) in
    subst (λ (tags : List (List ℕ)). OnOk c.encrypt_each_by.result (c.encrypt_each_by.new.blocks ≡ tags))
    (ap (zip2 encryption first)
    (c.in_ok-decrypt_each_by.ensures.ok ∙ ap (zip2 decryption second) c.in_ok-cbc_macs_each_by.ensures.ok)
    ∙ retail_macs-zipped g.C.KeySizeUser.KEY_SIZE encryption decryption (padded g.P.Padding.padding_after)
    first second messages as_second as_texts
    (λ k below. c.are_keys.ensures k (omega arith) ∙ sym g.met.C.KeySizeUser.key_size_is_len))
    c.encrypt_each_by.ensures.ok
