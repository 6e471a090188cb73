use Rattle.std.proofs.Common.{◌≡◌, ℕ, List, length, sym, ◌∙◌, arith}
use Rattle.std.proofs.lemmas.List.{length-map}
use Rattle.std.proofs.lemmas.Result.{on_ok_weaker}
use Rattle.des_mac.specs.Padding.{padded}
use Rattle.des_mac.specs.ManyMessages.{texts}
use Rattle.des_mac.proofs.ManyChains.{ends-cbc_macs_of}
use Rattle.des_mac.proofs.many.cbc_macs_by.Goals as goal

pub returns-clause-ok : goal.returns-clause-ok
returns-clause-ok g c =
    let tags : List (List ℕ) = c.args.tags.now in
    let same : length c.clear.new.blocks ≡ length tags = c.clear.auto.blocks in
    on_ok_weaker c.chaining_values_by.result
    (ends-cbc_macs_of (g.C.KeyedCipher.encryption (g.C.Key.KeyBytes.bytes_of c.args.key.now))
    (padded g.P.Padding.padding_after) (texts c.args.messages.now) c.clear.new.blocks c.chaining_values_by.new.chains
    (same ∙ c.if-tags-messages.false ∙ sym (length-map c.args.messages.now (λ m. m.now)))
    c.chaining_values_by.auto.chains (λ k below. c.clear.ensures k (omega arith)))
    c.chaining_values_by.ensures.ok
