use Rattle.std.proofs.Common.{◌<◌, List, ℕ, [], refl, rules}
use Rattle.std.proofs.lemmas.List.Elements.{All-from_get_or}
use Rattle.des.specs.Blocks.{AreBytes, IsKey}
use Rattle.des.specs.Des.{encryption}
use Rattle.des.specs.Enciphering.{Enciphers}
use Rattle.des.proofs.Graphs.{IsGraphOf-encryption}
use Rattle.des_mac.specs.Padding.{zeros_after, padded}
use Rattle.des_mac.proofs.PaddedBytes.{CanChain-zeros_after}
use Rattle.des_mac.proofs.RelatedMacs.{IsTheOne-cbc_mac}
use Rattle.des_uses.proofs.macs_by_relation.cbc_mac_of_des.Goals as goal

-- the tag is that of the key, whose graph is the relation
pub returns : goal.returns
returns c =
    let key : List ℕ = c.args.key.now in
    let message : List ℕ = c.args.message.now in
    let is_key : IsKey 8 key = (c.told-key, All-from_get_or (λ byte. byte < 256) key 0 (λ i within. c.fits-key i)) in
    let bytes : AreBytes message = All-from_get_or (λ byte. byte < 256) message 0 (λ i within. search rules) in
    let graph = IsGraphOf-encryption key is_key in
    let chains = CanChain-zeros_after message bytes in
    IsTheOne-cbc_mac (encryption key) (λ x y. Enciphers key x y) graph (padded zeros_after message) chains.0
    (λ block is_block. ((graph block (encryption key block)).1 (is_block, refl)).last_is_block)
    c.finalize.result chains.1
    (c.finalize.ensures key message (c.update.ensures key [] c.new-state.ensures))
