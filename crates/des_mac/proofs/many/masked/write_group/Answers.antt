use Rattle.std.proofs.Common.{◌≡◌, ℕ, List, length, map, sym, ◌∙◌, arith}
use Rattle.std.proofs.lemmas.List.{length-map}
use Rattle.des_mac.specs.ManyMessages.{texts}
use Rattle.des_mac.proofs.Accepted.{from_ok}
use Rattle.des_mac.proofs.ManyCmacs.{ends-cmacs}
use Rattle.des_mac.proofs.many.masked.write_group.Goals as goal

pub returns : goal.returns
returns g c =
    let bytes = g.C.Key.KeyBytes.bytes_of in
    let tags : List (List ℕ) = c.args.tags.now in
    let same : length c.clear.new.blocks ≡ length tags = c.clear.auto.blocks in
    let in_keys : length (map bytes c.args.keys.now) ≡ length c.args.keys.now = length-map c.args.keys.now bytes in
    ends-cmacs g.C.KeyedCipher.encryption (map bytes c.args.keys.now) c.zeros_under_each.new.blocks
    (texts c.args.messages.now) c.clear.new.blocks c.chaining_values_each_by.new.chains
    (in_keys ∙ c.requires.as_tags ∙ sym same)
    (same ∙ c.requires.as_messages ∙ sym (length-map c.args.messages.now (λ m. m.now)))
    c.chaining_values_each_by.auto.chains
    (λ k below. c.zeros_under_each.ensures k (omega (arith, below, same, c.requires.as_tags)))
    (λ k below. c.clear.ensures k (omega (arith, below, same)))
    (from_ok c.chaining_values_each_by.result
    (c.chaining_values_each_by.ensures.accepted.1 (c.requires.as_tags ∙ sym same, same ∙ c.requires.as_messages))
    c.chaining_values_each_by.ensures.ok)
